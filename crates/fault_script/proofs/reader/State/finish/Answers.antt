use Rattle.fault_script.proofs.Readers.{head_finishes, body_finishes, ended_finishes, stopped_finishes}
use Rattle.fault_script.proofs.reader.State.finish.Goals as goal

pub returns-in-Head-clause-says : goal.returns-in-Head-clause-says
returns-in-Head-clause-says c = λ r stands. head_finishes _ c.in-Head.field-0 r c.in-Head.is stands

pub returns-in-Body-clause-says : goal.returns-in-Body-clause-says
returns-in-Body-clause-says c = λ r stands. body_finishes _ c.in-Body.body _ r c.in-Body.is c.finish.ensures stands

pub returns-in-Ended-clause-says : goal.returns-in-Ended-clause-says
returns-in-Ended-clause-says c = λ r stands. ended_finishes _ c.in-Ended.script r c.in-Ended.is stands

pub returns-clause-says : goal.returns-clause-says
returns-clause-says c = λ r stands. stopped_finishes _ c.in-Stopped.fault r c.in-Stopped.is stands
