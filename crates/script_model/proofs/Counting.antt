-- A reading looks at each byte once, until the text has ended or was refused.
use Rattle.std.proofs.Common.{◌≡◌, ◌<◌, ◌≤◌, ◌+◌, ◌⊎◌, ◌++◌, ◌==◌, Bool, List, [], ◌∷◌, ℕ, zero, suc, length, take, refl, sym, ap, ◌∙◌, subst, arith, true, false, inl, inr, nat_lt, if◌then◌else◌, codes, length-append, Result, Ok, Err}
use Rattle.std.specs.Str.{bytes_eq}
use Rattle.lift_base.specs.declared.limits.TheConstants.{HEAD_TOO_LONG, LONGEST_LINE}
use Rattle.lift_base.specs.declared.forms.Form.{Form}
use Rattle.lift_config.specs.declared.ConfigFault.{ConfigFault}
use Rattle.lift_config.specs.Head.{read_head}
use Rattle.lift_model.specs.Records.{Settings}
use Rattle.script_model.specs.declared.refusals.LineRefusal.TheVariants.{LineTooLong}
use Rattle.script_model.specs.declared.refusals.Refusal.{Refusal}
use Rattle.script_model.specs.declared.refusals.Refusal.TheVariants.{HeadSize, Line, NoEnd}
use Rattle.script_model.specs.Judging.{ScriptData, Place, Judged, More, Done, Refused, judge_line}
use Rattle.script_model.specs.Meaning.{Reading, InHead, InLine, Ended, Stopped, IsOpen, bytes_of, count_of, head_read, head_grows, head_line_ends, line_ends, line_grows, take_byte, take_bytes, last_line, finished, No}

-- what has ended stays
pub ended_on : (script : ScriptData) (used : ℕ) (bytes : List ℕ) → take_bytes (Ended script used) bytes ≡ Ended script used
ended_on script used [] = refl
ended_on script used (b ∷ bytes) = ended_on script used bytes

-- what was refused stays
pub stopped_on : (refusal : Refusal) (used : ℕ) (bytes : List ℕ) → take_bytes (Stopped refusal used) bytes ≡ Stopped refusal used
stopped_on refusal used [] = refl
stopped_on refusal used (b ∷ bytes) = stopped_on refusal used bytes

pub read_count : (form : Form) (places : List Bool) (is : Result Settings ConfigFault) (number used : ℕ)
    → bytes_of (head_read form places is number used) ≡ used
read_count form places (Ok config) number used = refl
read_count form places (Err fault) number used = refl

grows_count : (form : Form) (places : List Bool) (head line : List ℕ) (number : ℕ)
    → bytes_of (head_grows form places head line number) ≡ length head + length line
grows_count form places head line number =
    let size = length head + length line in
    elim (nat_lt size HEAD_TOO_LONG) as (λ v. bytes_of (if v then InHead form places head line number else Stopped HeadSize size) ≡ size) [
      | true ↦ refl
      | false ↦ refl
    ]

ends_count : (form : Form) (places : List Bool) (head line : List ℕ) (number : ℕ)
    → bytes_of (head_line_ends form places head line number) ≡ length head + length line + 1
ends_count form places head line number =
    let next = head ++ (line ++ 10 ∷ []) in
    let used = length head + length line + 1 in
    let size : length next + 0 ≡ used = simp (length-append) (omega arith) in
    let is = read_head head in
    elim (bytes_eq line (codes "%%"))
    as (λ v. bytes_of (if v then head_read form places is (number + 1) used else head_grows form places next [] (number + 1)) ≡ used) [
      | true ↦ read_count form places is (number + 1) used
      | false ↦ grows_count form places next [] (number + 1) ∙ size
    ]

head_count : (form : Form) (places : List Bool) (head line : List ℕ) (number b : ℕ)
    → bytes_of (take_byte (InHead form places head line number) b) ≡ length head + length line + 1
head_count form places head line number b =
    let used = length head + length line + 1 in
    let size : length head + length (line ++ b ∷ []) ≡ used = simp (length-append) (omega arith) in
    elim (b == 10)
    as (λ v. bytes_of (if v then head_line_ends form places head line number else head_grows form places head
    (line ++ b ∷ []) number) ≡ used) [
      | true ↦ ends_count form places head line number
      | false ↦ grows_count form places head (line ++ b ∷ []) number ∙ size
    ]

line_count : (p : Place) (j : Judged) (number used : ℕ) → bytes_of (line_ends p j number used) ≡ used
line_count p (More p') number used = refl
line_count p Done number used = refl
line_count p (Refused reason) number used = refl

more_count : (p : Place) (number used : ℕ) (line : List ℕ) (b : ℕ) → bytes_of (line_grows p number used line b) ≡ used + 1
more_count p number used line b =
    let long = Stopped (Line number LineTooLong) (used + 1) in
    elim (nat_lt (length line) LONGEST_LINE) as (λ v. bytes_of (if v then InLine p number (used + 1) (line ++ b ∷ []) else long)
    ≡ used + 1) [
      | true ↦ refl
      | false ↦ refl
    ]

-- one more byte is one more
pub one_byte : (r : Reading) (b : ℕ) → IsOpen r → bytes_of (take_byte r b) ≡ bytes_of r + 1
one_byte (InHead form places head line number) b is = head_count form places head line number b
one_byte (InLine p number used line) b is =
    let judged = judge_line p number line in
    elim (b == 10)
    as (λ v. bytes_of (if v then line_ends p judged number (used + 1) else line_grows p number used line b) ≡ used + 1) [
      | true ↦ line_count p judged number (used + 1)
      | false ↦ more_count p number used line b
    ]
one_byte (Ended script used) b is = absurd is
one_byte (Stopped refusal used) b is = absurd is

-- so many of these bytes were looked at: it was open after fewer of them
pub record LookedAt (r : Reading) (bytes : List ℕ) (n : ℕ) : Type 0 where
  pub within : n ≤ length bytes
  pub count : bytes_of (take_bytes r bytes) ≡ bytes_of r + n
  pub decided : take_bytes r (take n bytes) ≡ take_bytes r bytes
  pub before : (k : ℕ) → k < n → IsOpen (take_bytes r (take k bytes))
  pub all : IsOpen (take_bytes r bytes) → n ≡ length bytes

-- a reading is open, or no byte changes it
closed : (r : Reading) → IsOpen r ⊎ ((IsOpen r → ⊥) × ((bytes : List ℕ) → take_bytes r bytes ≡ r))
closed (InHead form places head line number) = inl tt
closed (InLine p number used line) = inl tt
closed (Ended script used) = inr (λ is. is, ended_on script used)
closed (Stopped refusal used) = inr (λ is. is, stopped_on refusal used)

before_next : (r : Reading) (b : ℕ) (bytes : List ℕ) (n : ℕ) → IsOpen r
    → ((k : ℕ) → k < n → IsOpen (take_bytes (take_byte r b) (take k bytes)))
    → (k : ℕ) → k < suc n → IsOpen (take_bytes r (take k (b ∷ bytes)))
before_next r b bytes n is later zero lt = is
before_next r b bytes n is later (suc k) lt = later k (omega arith)

pub looked_at : (r : Reading) (bytes : List ℕ) → IsOpen r → (n : ℕ) × LookedAt r bytes n
looked_at r [] is =
    (0, record { within = omega arith; count = omega arith; decided = refl; before = λ k lt. absurd (omega arith); all = λ still. refl })
looked_at r (b ∷ bytes) is =
    let one = one_byte r b is in
    elim (closed (take_byte r b)) [
      | inl next ↦
          let rest = looked_at (take_byte r b) bytes next in (
            suc rest.0,
            record {
              within = omega (arith, rest.1.within);
              count = omega (arith, rest.1.count, one);
              decided = rest.1.decided;
              before = before_next r b bytes rest.0 is rest.1.before;
              all = λ still. ap suc (rest.1.all still);
            },
          )
      | inr shut ↦ (
        1,
        record {
          within = omega arith;
          count = ap bytes_of (shut.1 bytes) ∙ one;
          decided = sym (shut.1 bytes);
          before = before_next r b bytes 0 is (λ k lt. absurd (omega arith));
          all = λ still. absurd (shut.0 (subst IsOpen (shut.1 bytes) still));
        },
      )
    ]

last_count : (p : Place) (j : Judged) (number used : ℕ) → count_of (last_line p j number used) ≡ used
last_count p (More p') number used = refl
last_count p Done number used = refl
last_count p (Refused reason) number used = refl

-- the end of the text counts no byte more
pub finished_count : (r : Reading) → count_of (finished r) ≡ bytes_of r
finished_count (InHead form places head line number) = refl
finished_count (InLine p number used line) =
    let judged = judge_line p number line in
    elim (bytes_eq line (codes "e")) as (λ v. count_of (if v then last_line p judged number used else No NoEnd used) ≡ used) [
      | true ↦ last_count p judged number used
      | false ↦ refl
    ]
finished_count (Ended script used) = refl
finished_count (Stopped refusal used) = refl
