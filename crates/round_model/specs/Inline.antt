-- A boxed object, and the same deeds written as lines.
use Rattle.std.specs.Prelude.{◌≡◌, ◌↔◌, ℕ, ◌+◌, Bool, true, false, not, ◌&&◌, List, [], ◌∷◌, ◌++◌, length, drop, get_or, Option, Some, None, is_none, bit_xor}
use Rattle.lift_base.specs.declared.Side.{Side}
use Rattle.lift_base.specs.declared.Side.TheVariants.{A, B}
use Rattle.lift_base.specs.declared.Override.TheVariants.{Keep}
use Rattle.lift_model.specs.Plans.{Plan, idle, IsDeed, deeds, mask}
use Rattle.lift_model.specs.Records.{Settings, InputData, SideFaultData, DeedData}
use Rattle.round_model.specs.Holding.{given, held_from, held_in}
use Rattle.round_model.specs.Lawful.{AreLegal}
use Rattle.round_model.specs.Parts.{faults_of, failed_by, has_failed}
use Rattle.round_model.specs.Records.{RoundData}
use Rattle.round_model.specs.Turns.{is_keep}

-- the script neither exchanges the side, nor dismisses its object, nor gives it one
abbrev pub leaves : SideFaultData → Bool
leaves f = not f.exchange && (not f.dismiss && is_none f.give)

abbrev pub all_leave : Side → List InputData → Bool
all_leave side [] = true
all_leave side (input ∷ inputs) = leaves (faults_of side input) && all_leave side inputs

-- An object that told a list when it was given to a failed side answers the list deed by deed: at the j-th tick behind the gift what is
-- left is told.
abbrev pub ListIsTold : Type 0
ListIsTold = (crew : List (Option Plan)) (side : Side) (past : List InputData) (gift : InputData) (between : List InputData)
    (now : InputData) (i : ℕ) (told : List DeedData)
    → failed_by (has_failed side past) (faults_of side gift) ≡ true → (faults_of side gift).give ≡ Some i
    → get_or crew i None ≡ Some (deeds told)
    → all_leave side (between ++ now ∷ []) ≡ true
    → (held_in crew side past gift ≡ Some (deeds told))
    × (held_in crew side (past ++ gift ∷ between) now ≡ Some (deeds (drop (length between + 1) told)))

-- The deed of what is left of a list is its first, and idle where nothing is left.
abbrev pub DeedOfList : Type 0
DeedOfList = (told : List DeedData) (j seen : ℕ) (d : DeedData) → IsDeed (Some (deeds (drop j told))) seen d → d ≡ get_or told j idle

-- An object that told a mask when it was given tells the same mask at each later tick.
abbrev pub MaskIsTold : Type 0
MaskIsTold = (crew : List (Option Plan)) (side : Side) (past : List InputData) (gift : InputData) (between : List InputData)
    (now : InputData) (i m : ℕ)
    → failed_by (has_failed side past) (faults_of side gift) ≡ true → (faults_of side gift).give ≡ Some i
    → get_or crew i None ≡ Some (mask m)
    → all_leave side (between ++ now ∷ []) ≡ true
    → (held_in crew side past gift ≡ Some (mask m)) × (held_in crew side (past ++ gift ∷ between) now ≡ Some (mask m))

-- The deed of a mask has as both words the seen word with the mask's bits inverted, and no order.
abbrev pub DeedOfMask : Type 0
DeedOfMask = (m seen : ℕ) (d : DeedData) → IsDeed (Some (mask m)) seen d
    → d ≡ record { publish = Some (bit_xor seen m); command = Some (bit_xor seen m); contactor = Keep }

-- the faults of a deed, with this tick's failure, hold, exchange and dismissal
abbrev pub inlined : SideFaultData → DeedData → SideFaultData
inlined f d = record {
  fail = f.fail;
  hold = f.hold;
  exchange = f.exchange;
  publish = d.publish;
  command = d.command;
  contactor = d.contactor;
  dismiss =
      f.dismiss;
  give = None;
}

abbrev pub with_faults : Side → InputData → SideFaultData → InputData
with_faults A input f = record {
  frames = input.frames;
  words = input.words;
  truth = input.truth;
  faults =
      record { a = f; b = input.faults.b };
}
with_faults B input f = record {
  frames = input.frames;
  words = input.words;
  truth = input.truth;
  faults =
      record { a = input.faults.a; b = f };
}

-- the deeds of the list as faults, tick by tick, idle past its end
abbrev pub all_inlined : Side → List InputData → List DeedData → List InputData
all_inlined side [] told = []
all_inlined side (input ∷ inputs) [] = with_faults side input (inlined (faults_of side input) idle) ∷ all_inlined side inputs []
all_inlined side (input ∷ inputs) (d ∷ told) = with_faults side input (inlined (faults_of side input) d) ∷ all_inlined side inputs told

-- no word and no order of the side
abbrev pub is_silent : SideFaultData → Bool
is_silent f = is_none f.publish && is_none f.command && is_keep f.contactor

abbrev pub all_silent : Side → List InputData → Bool
all_silent side [] = true
all_silent side (input ∷ inputs) = is_silent (faults_of side input) && all_silent side inputs

-- One script gives a side that has failed and holds nothing an object that told a list, and has no word, order, gift, dismissal or
-- exchange of the side from that tick on; the other is that script with the list's deeds as lines from there on.
pub record IsInlined (crew : List (Option Plan)) (boxed lines : List InputData) : Type 0 where
  pub side : Side
  pub past : List InputData
  pub gift : InputData
  pub more : List InputData
  pub place : ℕ
  pub told : List DeedData
  pub boxes : boxed ≡ past ++ gift ∷ more
  pub inlines : lines ≡ past ++ all_inlined side (gift ∷ more) told
  pub failed : failed_by (has_failed side past) (faults_of side gift) ≡ true
  pub gives : (faults_of side gift).give ≡ Some place
  pub tells : get_or crew place None ≡ Some (deeds told)
  pub empty : given crew None (faults_of side gift).dismiss (held_from crew side false None past) ≡ None
  pub silent : all_silent side (gift ∷ more) ≡ true
  pub leaves : all_leave side more ≡ true

-- A script that gives a failed side an object with a told list, and one that has the list's deeds as faults, have the same legal rounds.
abbrev pub InlineEqualsBoxed : Type 0
InlineEqualsBoxed = (config : Settings) (crew : List (Option Plan)) (boxed lines : List InputData) → IsInlined crew boxed lines
    → (rounds : List RoundData) → AreLegal config crew boxed rounds ↔ AreLegal config crew lines rounds
