use Rattle.std.proofs.Common.{rules, ◌≡◌, ◌-◌, ◌++◌, ◌∙◌, take, Some, None, sym, ap}
use Rattle.std.specs.Prelude.{option_to_list}
use Rattle.std.specs.declared.option.Option.{Option}
use Rattle.script_model.specs.Changes.{ChangeData}
use Rattle.script_model.specs.Report.{changes_of}
use Rattle.report.specs.Ticks.{change_of}
use Rattle.report.proofs.TickChanges.{one_tick_more}
use Rattle.report.proofs.changes.change_at.Goals as goal

pub returns-then-is_change-clause-adds : goal.returns-then-is_change-clause-adds
returns-then-is_change-clause-adds c =
    let path = c.args.path.now.settled in
    let n = c.args.n in
    let is : Some c.shown_at.result ≡ change_of path n = search rules in
    one_tick_more path n c.requires.first c.requires.last
    ∙ ap (λ (o : Option ChangeData). changes_of (take (n - 1) path) ++ option_to_list o) (sym is)

pub returns-else-is_change-clause-adds : goal.returns-else-is_change-clause-adds
returns-else-is_change-clause-adds c =
    let path = c.args.path.now.settled in
    let n = c.args.n in
    let none : Option ChangeData = None in
    let is : none ≡ change_of path n = search rules in
    one_tick_more path n c.requires.first c.requires.last
    ∙ ap (λ (o : Option ChangeData). changes_of (take (n - 1) path) ++ option_to_list o) (sym is)
