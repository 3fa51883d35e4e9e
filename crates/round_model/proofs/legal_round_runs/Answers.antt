use Rattle.std.proofs.Common.{refl}
use Rattle.round_model.proofs.LawfulLemmas.{legal_runs}
use Rattle.round_model.proofs.ToldLemmas.{round_is_told}
use Rattle.round_model.proofs.legal_round_runs.Goals as goal

pub returns-clause-run : goal.returns-clause-run
returns-clause-run c config crew inputs rounds events s script legal = record {
  events = events;
  state = s;
  legal = legal;
  run = (legal_runs config crew inputs rounds events s legal script.once script.room).run;
  same_path = refl;
}

pub returns-clause-told : goal.returns-clause-told
returns-clause-told c = round_is_told
