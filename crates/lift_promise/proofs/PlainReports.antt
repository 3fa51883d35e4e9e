-- The report of a run that nothing disturbs is that of its script's plain path: a report looks at no seen word.
use Rattle.std.proofs.Common.{◌≡◌, ◌∙◌, ◌<◌, ◌≤◌, ◌+◌, ◌-◌, ◌++◌, ℕ, suc, Bool, false, List, [], ◌∷◌, length, map, get_or, refl, sym, ap, subst, arith, if◌then◌else◌, Option}
use Rattle.lift_base.specs.Ruling.{Ruling}
use Rattle.lift_base.specs.declared.Kind.{Kind}
use Rattle.lift_base.specs.declared.Side.TheVariants.{A, B}
use Rattle.lift_model.specs.Grant.{grant}
use Rattle.lift_model.specs.Plans.{Plan}
use Rattle.lift_model.specs.Records.{Settings, InputData}
use Rattle.core_model.specs.Due.{IsPlain}
use Rattle.core_model.specs.PlainPath.{plain_settled, plain_from, plain_path}
use Rattle.core_model.specs.Settling.{Settled, Out, no_settled}
use Rattle.core_model.specs.Words.{is_off}
use Rattle.round_model.proofs.LawfulLemmas.{lawful_plain}
use Rattle.round_model.specs.Lawful.{IsScript, IsLawful}
use Rattle.round_model.specs.Parts.{CalmScript}
use Rattle.round_model.specs.Records.{RoundData}
use Rattle.lift_making.proofs.WholeRuns.{long}
use Rattle.script_model.specs.Changes.{ChangeData}
use Rattle.script_model.specs.Report.{change_at, is_change, changes_from, count_on, totals_text, report_text}

-- seen words left out
abbrev unseen : Out → Out
unseen out = record { kind = out.kind; forced = out.forced; word = out.word; seen = 0 }

abbrev shown : Settled → Settled
shown s = record { power = s.power; alarm = s.alarm; a = unseen s.a; b = unseen s.b }

changes-shown : (power : Kind) (alarm : Bool) (t : ℕ) (path : List Settled)
    → changes_from power alarm t (map shown path) ≡ changes_from power alarm t path
changes-shown power alarm t [] = refl
changes-shown power alarm t (s ∷ path) =
    ap (λ (more : List ChangeData). (if is_change power alarm s.power s.alarm then change_at t s ∷ [] else []) ++ more)
    (changes-shown s.power s.alarm (t + 1) path)

on-shown : (path : List Settled) → count_on (map shown path) ≡ count_on path
on-shown [] = refl
on-shown (s ∷ path) = ap (λ n. (if is_off s.power then 0 else 1) + n) (on-shown path)

length-shown : (path : List Settled) → length (map shown path) ≡ length path
length-shown [] = refl
length-shown (s ∷ path) = ap suc (length-shown path)

report-shown : (path : List Settled) → report_text (map shown path) ≡ report_text path
unfolding report_text totals_text
report-shown path = rw (changes-shown Kind.Off false 1 path, on-shown path, length-shown path) refl

-- what was settled at a plain tick
plain-shown : (config : Settings) (inputs : List InputData) (t : ℕ) (s : Settled) → IsPlain config inputs t s
    → shown s ≡ plain_settled (grant config inputs) (t - 1)
plain-shown config inputs t s plain = rw (
  plain.power,
  plain.alarm,
  plain.kinds A,
  plain.kinds B,
  plain.free A,
  plain.free B,
  plain.words A,
  plain.words B,
) refl

all-shown : (v : ℕ → Ruling) (before : ℕ) (path : List Settled)
    → ((i : ℕ) → i < length path → shown (get_or path i no_settled) ≡ plain_settled v (before + i))
    → map shown path ≡ plain_from v before (length path)
all-shown v before [] each = refl
all-shown v before (s ∷ path) each =
    let first : shown s ≡ plain_settled v before = each 0 (omega arith) ∙ ap (plain_settled v) (omega arith) in
    let more = all-shown v (suc before) path
    (λ i lt. each (suc i) (omega (arith, lt)) ∙ ap (plain_settled v) (omega arith)) in
    ap (λ (x : Settled). x ∷ map shown path) first ∙ ap (λ (xs : List Settled). plain_settled v before ∷ xs) more

module _ (config : Settings) (crew : List (Option Plan)) (inputs : List InputData) (rounds : List RoundData) (path : List Settled)
    (fits : IsScript config inputs) (run : IsLawful config crew inputs rounds path) where
  all-settled : length path ≡ length inputs
  all-settled = long config crew inputs rounds path fits run

  calm-earlier : (t : ℕ) → t ≤ length inputs → CalmScript inputs (length inputs) → CalmScript inputs t
  calm-earlier t old calm past input more e lt = calm past input more e (omega (arith, old, lt))

  at-tick : CalmScript inputs (length inputs) → (i : ℕ) → i < length path
      → shown (get_or path i no_settled) ≡ plain_settled (grant config inputs) i
  at-tick calm i lt =
      let back : i + 1 - 1 ≡ i = omega arith in
      let plain = lawful_plain config crew inputs rounds path fits run (i + 1) (omega arith) (omega (arith, lt))
      (calm-earlier (i + 1) (omega (arith, lt, all-settled)) calm) in
      subst (λ k. shown (get_or path k no_settled) ≡ plain_settled (grant config inputs) k) back
      (plain-shown config inputs (i + 1) (get_or path (i + 1 - 1) no_settled) plain)

  pub calm_report : CalmScript inputs (length inputs) → report_text path ≡ report_text (plain_path (grant config inputs) (length inputs))
  calm_report calm =
      let v = grant config inputs in
      let same : map shown path ≡ plain_path v (length path) = all-shown v 0 path
      (λ i lt. at-tick calm i lt ∙ ap (plain_settled v) (omega arith)) in
      sym (report-shown path) ∙ (ap report_text same ∙ ap (λ n. report_text (plain_path v n)) all-settled)
