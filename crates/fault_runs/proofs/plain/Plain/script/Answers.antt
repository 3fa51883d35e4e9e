use Rattle.std.proofs.Common.{◌≡◌, ◌∙◌, sym, subst, None, Option, ℕ}
use Rattle.fault_plan.specs.Made.{script_with}
use Rattle.fault_runs.specs.Plain.{AreUsual, reset_after, reset_in}
use Rattle.fault_runs.proofs.RoundLemmas.{if_ok}
use Rattle.fault_runs.proofs.plain.Plain.script.Goals as goal

pub returns-in-None-clause-script : goal.returns-in-None-clause-script
returns-in-None-clause-script c = λ knows. if_ok c.script_of-in-None.result (λ made same.
    let plain = c.args.self.now in
    let script = plain.script in
    let words = plain.usual.words.items in
    let fault = c.in_ok-fault.fault in
    let none : None ≡ reset_after fault.tick fault.what = sym c.in-None.is ∙ c.reset_of.ensures in (
      fault,
      c.in_ok-fault.ensures.value,
      record {
        words = words;
        usual = subst (λ (reset : Option ℕ). AreUsual words (reset_in reset script)) none (plain.usual.path.settled, knows.run);
        same = subst (λ (reset : Option ℕ). made ≡ script_with words fault (reset_in reset script)) none same;
      },
    )) c.script_of-in-None.ensures.script
