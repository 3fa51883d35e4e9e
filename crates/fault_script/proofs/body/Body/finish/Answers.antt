use Rattle.std.proofs.Common.{◌≡◌, codes, rules, true}
use Rattle.std.specs.Str.{bytes_eq}
use Rattle.script_model.specs.Judging.{judge_line}
use Rattle.script_model.specs.Meaning.{line_ends}
use Rattle.fault_script.specs.Refusals.{Stops}
use Rattle.fault_script.proofs.Stopping.{line_missed}
use Rattle.fault_script.proofs.body.Body.finish.Goals as goal

pub returns-in-Refused : goal.returns-in-Refused
returns-in-Refused c = λ used.
    let body = c.args.self in
    let fault = c.at_line.result in
    let is_end : bytes_eq body.line (codes "e") ≡ true = search rules in
    let judged = judge_line body.place body.number body.line in
    let stops : Stops fault (line_ends body.place judged body.number used) =
    search (rules, c.in-Refused.ensures.takes.0, c.at_line.ensures) in
    rw is_end (line_missed fault body.place judged body.number used stops)
