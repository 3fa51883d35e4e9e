-- The script of a fault is one of Form Replay, in every range.
use Rattle.std.proofs.Common.{◌≡◌, ℕ, zero, suc, ◌+◌, ◌-◌, ◌<◌, ◌≤◌, ◌^◌, ◌==◌, refl, arith, inl, inr, nat_lt, List, [], ◌∷◌, Bool, length, get_or, Option, Some, None}
use Rattle.std.specs.Prelude.{IfSome}
use Rattle.std.specs.List.{AllByRecursion}
use Rattle.std.proofs.lemmas.Bool.{cases_Bool}
use Rattle.lift_base.specs.declared.limits.TheConstants.{MOST_TICKS}
use Rattle.lift_model.specs.Enums.{Kind, Off, Full, Up, Down, Side, A, B}
use Rattle.lift_model.specs.Records.{InputData, SideFaultData}
use Rattle.core_model.specs.Machine.{other}
use Rattle.script_model.specs.Faults.{no_fault}
use Rattle.script_model.specs.Judging.{ScriptData}
use Rattle.script_model.specs.Valid.{AreFaults, IsInput, IsReplay}
use Rattle.fault_plan.specs.Doing.{no_words, words_in, of_side, fresh, stored, publish_of, command_of, side_faults, on_side}
use Rattle.fault_plan.specs.Made.{inputs_with, script_with}
use Rattle.fault_plan.specs.Ranges.{AreSideWords, AreTickWords, IsWhat, IsFault}
use Rattle.fault_plan.specs.declared.single.SingleFault.{SingleFault}
use Rattle.fault_plan.specs.declared.single.What.{What}
use Rattle.fault_plan.specs.declared.single.What.TheVariants.{Silent, Wrong, Fresh, Others, Last, Right, Forced, Held, Exchanged, ExchangedAndReset}
use Rattle.fault_plan.specs.declared.words.SideWords.{SideWords}
use Rattle.fault_plan.specs.declared.words.TickWords.{TickWords}
use Rattle.fault_plan.proofs.KeepLemmas.{follows}

-- ---- words

each_or : {X : Type 0} (P : X → Type 0) (xs : List X) (i : ℕ) (d : X) → AllByRecursion P xs → P d → P (get_or xs i d)
each_or P [] i d all is = is
each_or P (x ∷ xs) zero d all is = all.0
each_or P (x ∷ xs) (suc i) d all is = each_or P xs i d all.1 is

none_small : AreTickWords no_words
none_small = (record { publish = omega arith; command = omega arith }, record { publish = omega arith; command = omega arith })

small_in : (words : List TickWords) (n : ℕ) → AllByRecursion AreTickWords words → AreTickWords (words_in words n)
small_in words n all = elim (cases_Bool (n == 0)) [
  | inl first ↦ rw first none_small
  | inr later ↦ rw later (each_or AreTickWords words (n - 1) no_words all none_small)
]

small_of : (side : Side) (w : TickWords) → AreTickWords w → AreSideWords (of_side side w)
small_of A w small = small.0
small_of B w small = small.1

fresh_small : (kind : Kind) (n : ℕ) → n < 2 ^ 24 → fresh kind n < 2 ^ 64
fresh_small Off n few = omega (arith, few)
fresh_small Full n few = omega (arith, few)
fresh_small Up n few = omega (arith, few)
fresh_small Down n few = omega (arith, few)

stored_small : (words : List TickWords) (side : Side) (what : What) (n : ℕ) → AllByRecursion AreTickWords words → IsWhat what → n < 2 ^ 24
    → IfSome (stored words side what n) AreSideWords
stored_small words side Silent n all is few = tt
stored_small words side (Wrong word) n all is few = record { publish = is; command = is }
stored_small words side (Fresh kind) n all is few = record { publish = fresh_small kind n few; command = fresh_small kind n few }
stored_small words side Others n all is few = small_of (other side) (words_in words n) (small_in words n all)
stored_small words side Last n all is few = small_of side (words_in words (n - 1)) (small_in words (n - 1) all)
stored_small words side Right n all is few = small_of side (words_in words n) (small_in words n all)
stored_small words side (Forced kind) n all is few = small_of side (words_in words n) (small_in words n all)
stored_small words side (Held ticks) n all is few = tt
stored_small words side (Exchanged after) n all is few = tt
stored_small words side (ExchangedAndReset after) n all is few = tt

publish_small : (w : Option SideWords) → IfSome w AreSideWords → IfSome (publish_of w) (λ word. word < 2 ^ 64)
publish_small None is = tt
publish_small (Some w) is = is.publish

command_small : (w : Option SideWords) → IfSome w AreSideWords → IfSome (command_of w) (λ word. word < 2 ^ 64)
command_small None is = tt
command_small (Some w) is = is.command

-- ---- faults

side_in_range : (words : List TickWords) (f : SingleFault) (n : ℕ) → AllByRecursion AreTickWords words → IsFault f → n < 2 ^ 24
    → AreFaults (side_faults words f n)
unfolding side_faults
side_in_range words f n all is few = elim (cases_Bool (nat_lt n f.tick)) [
  | inl early ↦ rw early (record { publish = tt; command = tt; give = tt })
  | inr due ↦
      let small = stored_small words f.side f.what n all is.what few in
      rw due (record { publish = publish_small _ small; command = command_small _ small; give = tt })
]

none_in_range : AreFaults no_fault
none_in_range = record { publish = tt; command = tt; give = tt }

a_in_range : (side : Side) (f : SideFaultData) → AreFaults f → AreFaults (on_side side f).a
a_in_range A f is = is
a_in_range B f is = none_in_range

b_in_range : (side : Side) (f : SideFaultData) → AreFaults f → AreFaults (on_side side f).b
b_in_range A f is = none_in_range
b_in_range B f is = is

-- ---- inputs

inputs_in_range : (words : List TickWords) (f : SingleFault) (n : ℕ) (inputs : List InputData) → AllByRecursion AreTickWords words
    → IsFault f → n + length inputs ≤ 2 ^ 24 → AllByRecursion IsInput inputs → AllByRecursion IsInput (inputs_with words f n inputs)
unfolding inputs_with
inputs_in_range words f n [] all is few each = tt
inputs_in_range words f n (input ∷ inputs) all is few each =
    let side = side_in_range words f n all is (omega (arith, few)) in
    let i = each.0 in (
      record {
        few = i.few;
        frames = i.frames;
        a = i.a;
        b = i.b;
        sources = i.sources;
        truth = i.truth;
        faults_a = a_in_range f.side (side_faults words f n) side;
        faults_b = b_in_range f.side (side_faults words f n) side;
      },
      inputs_in_range words f (n + 1) inputs all is (omega (arith, few)) each.1,
    )

long_with : (words : List TickWords) (f : SingleFault) (n : ℕ) (inputs : List InputData)
    → length (inputs_with words f n inputs) ≡ length inputs
unfolding inputs_with
long_with words f n [] = refl
long_with words f n (input ∷ inputs) = omega (arith, long_with words f (n + 1) inputs)

pub is_replay : (places : List Bool) (words : List TickWords) (f : SingleFault) (s : ScriptData) → AllByRecursion AreTickWords words
    → IsFault f → IsReplay places s → IsReplay places (script_with words f s)
is_replay places words f s all is replay =
    let ticks : s.config.ticks ≤ MOST_TICKS = replay.config.ticks in
    record {
      config = replay.config;
      few = omega (arith, replay.few, long_with words f 1 s.inputs);
      inputs = inputs_in_range words f 1 s.inputs all is (omega (arith, replay.few, ticks)) replay.inputs;
      faults = follows places words f s.inputs is.from;
      steps = refl;
    }
