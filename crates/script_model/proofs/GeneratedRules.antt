-- A script without faults, as a generated one, keeps the rules of a replay.
use Rattle.std.proofs.Common.{ℕ, zero, suc, ◌≡◌, Bool, false, ◌||◌, List, [], ◌∷◌, ◌++◌, refl, ap, subst, sym, ◌∙◌}
use Rattle.std.specs.List.{AllByRecursion}
use Rattle.lift_base.specs.declared.Side.{Side}
use Rattle.lift_base.specs.declared.Side.TheVariants.{A, B}
use Rattle.lift_model.specs.Records.{InputData, FaultData, SideFaultData}
use Rattle.round_model.specs.Giving.{gives, is_given, GivesOnceIn}
use Rattle.round_model.specs.Parts.{faults_of, FailsOnceIn, CalmScript}
use Rattle.script_model.specs.Faults.{Standings, no_fault, no_faults, standings_after}
use Rattle.script_model.specs.Generated.{generated, generated_input, inputs_to}
use Rattle.script_model.specs.Judging.{ScriptData}
use Rattle.script_model.specs.Rules.{KeepsRules}
use Rattle.script_model.specs.Valid.{MayFollow, MayHave, MayHaveBoth}

pub all_push : {X : Type 0} (P : X → Type 0) (xs : List X) (x : X) → AllByRecursion P xs → P x → AllByRecursion P (xs ++ x ∷ [])
all_push P [] x all one = (one, tt)
all_push P (y ∷ xs) x (first, all) one = (first, all_push P xs x all one)

all_at : {X : Type 0} (P : X → Type 0) (past : List X) (x : X) (more : List X) → AllByRecursion P (past ++ x ∷ more) → P x
all_at P [] x more (one, all) = one
all_at P (y ∷ past) x more (first, all) = all_at P past x more all

-- ---- inputs without faults

abbrev pub IsCalm : InputData → Type 0
IsCalm input = input.faults ≡ no_faults

pub each_is_calm : (number ticks : ℕ) → AllByRecursion IsCalm (inputs_to number ticks)
unfolding inputs_to
each_is_calm number zero = tt
each_is_calm number (suc ticks) =
    all_push IsCalm (inputs_to number ticks) (generated_input number (suc ticks)) (each_is_calm number ticks) refl

module _ (inputs : List InputData) (calm : AllByRecursion IsCalm inputs) where
  at : (past : List InputData) (input : InputData) (more : List InputData) → inputs ≡ past ++ input ∷ more → IsCalm input
  at past input more is = all_at IsCalm past input more (subst (AllByRecursion IsCalm) is calm)

  none_of : (input : InputData) → IsCalm input → (side : Side) → faults_of side input ≡ no_fault
  none_of input so A = ap (λ (f : FaultData). f.a) so
  none_of input so B = ap (λ (f : FaultData). f.b) so

  pub calm_fails : FailsOnceIn inputs
  calm_fails past input more is side =
      let none = none_of input (at past input more is) side in
      let fail = ap (λ (f : SideFaultData). f.fail) none in
      let exchange = ap (λ (f : SideFaultData). f.exchange) none in
      record { fails = λ h. absurd (cc); exchanged = λ h. absurd (cc); alone = λ h. absurd (cc) }

  pub calm_gives : GivesOnceIn inputs
  calm_gives past input more is =
      let so = at past input more is in
      record {
        a = λ i h. let no = ap (gives i) (none_of input so A) in absurd (cc);
        b = λ i h. let no = ap (gives i) (none_of input so B) in absurd (cc);
      }

  -- no tick has a failure or holds a side
  pub calm_script : (t : ℕ) → CalmScript inputs t
  calm_script t past input more is before side =
      let none = none_of input (at past input more is) side in
      (ap (λ (f : SideFaultData). f.fail) none, ap (λ (f : SideFaultData). f.hold) none)

none_given : (i : ℕ) (inputs : List InputData) → AllByRecursion IsCalm inputs → is_given i inputs ≡ false
none_given i [] calm = refl
none_given i (input ∷ inputs) (one, calm) =
    ap (λ (f : FaultData). gives i f.a || (gives i f.b || is_given i inputs)) one ∙ none_given i inputs calm

-- ---- what the ticks may have

may_none : (s : Standings) → MayHaveBoth s no_faults
may_none s = record { a = none s.a; b = none s.b; left_a = tt; left_b = tt }
  where
    none : (one : _) → MayHave one no_fault
    none one = record {
      fails = λ h. absurd (cc);
      holds = λ h. absurd (cc);
      exchange = λ h. absurd (cc);
      publish = λ h. absurd (cc);
      command = λ h. absurd (cc);
      contactor = λ h. absurd (cc);
      dismiss = λ h. absurd (cc);
      give = λ h. absurd (cc);
    }

pub calm_follows : (s : Standings) (inputs : List InputData) → AllByRecursion IsCalm inputs → MayFollow s inputs
calm_follows s [] calm = tt
calm_follows s (input ∷ inputs) (one, calm) =
    (subst (MayHaveBoth s) (sym one) (may_none s), calm_follows (standings_after s input.faults) inputs calm)

-- ---- a script

pub calm_keeps_rules : (places : List Bool) (s : ScriptData) → s.steps ≡ [] → AllByRecursion IsCalm s.inputs → KeepsRules places s
calm_keeps_rules places s none calm = record {
  steps = none;
  fails = calm_fails s.inputs calm;
  gives = calm_gives s.inputs calm;
  held = λ i given. let no = none_given i s.inputs calm in absurd (cc);
}

pub generated_keeps_rules : (places : List Bool) (number : ℕ) → KeepsRules places (generated number)
unfolding generated
generated_keeps_rules places number = calm_keeps_rules places (generated number) refl (each_is_calm number 50000)
