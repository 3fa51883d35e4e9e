-- The scripts of Form Replay that there are.
use Rattle.std.specs.Prelude.{◌≡◌, ◌<◌, ◌≤◌, ◌^◌, Bool, true, false, List, [], ◌∷◌, length, IfSome, is_some}
use Rattle.std.specs.List.{AllByRecursion}
use Rattle.can_frame.specs.Frames.{IsFrameData}
use Rattle.lift_base.specs.declared.TheConstants.{SOURCES}
use Rattle.lift_base.specs.declared.limits.TheConstants.{MOST_FRAMES}
use Rattle.lift_config.specs.Ranges.{IsInRange}
use Rattle.lift_model.specs.Records.{InputData, FaultData, SideFaultData}
use Rattle.round_model.specs.Turns.{is_keep}
use Rattle.script_model.specs.declared.sides.SideLine.{SideLine}
use Rattle.script_model.specs.declared.sides.SideLine.TheVariants.{Word, Value, Contactor, Give}
use Rattle.script_model.specs.declared.sides.Standing.{Standing}
use Rattle.script_model.specs.Faults.{only_exchanged, Standings, all_stand, is_failed, is_left, standings_after}
use Rattle.script_model.specs.Judging.{ScriptData}

-- what a line of a side can say: a word of 64 bits, an order, a place up to 254
abbrev pub IsSideLine : SideLine → Type 0
IsSideLine (Word w) = w < 2 ^ 64
IsSideLine (Value w) = w < 2 ^ 64
IsSideLine (Contactor order) = is_keep order ≡ false
IsSideLine (Give i) = i ≤ 254
IsSideLine l = Unit {0}

-- words of 64 bits, and a place that a line can name
pub record AreFaults (f : SideFaultData) : Type 0 where
  pub publish : IfSome f.publish (λ w. w < 2 ^ 64)
  pub command : IfSome f.command (λ w. w < 2 ^ 64)
  pub give : IfSome f.give (λ i. i ≤ 254)

-- what every Input keeps
pub record IsInput (i : InputData) : Type 0 where
  pub few : length i.frames ≤ MOST_FRAMES
  pub frames : AllByRecursion IsFrameData i.frames
  pub a : i.words.a < 2 ^ 16
  pub b : i.words.b < 2 ^ 16
  pub sources : length i.truth ≡ SOURCES
  pub truth : AllByRecursion (λ w. w < 2 ^ 16) i.truth
  pub faults_a : AreFaults i.faults.a
  pub faults_b : AreFaults i.faults.b

-- A tick may have these faults of a side that stood so: it fails and is held only where it acts; all else asks that it has failed; where
-- it is exchanged it has no other faults; it is given an object only where it holds none, and one that it held is dismissed.
pub record MayHave (s : Standing) (f : SideFaultData) : Type 0 where
  pub fails : f.fail ≡ true → (s.failed ≡ false) × (f.hold ≡ false)
  pub holds : f.hold ≡ true → s.failed ≡ false
  pub exchange : f.exchange ≡ true → (s.failed ≡ true) × (f ≡ only_exchanged)
  pub publish : is_some f.publish ≡ true → is_failed s f ≡ true
  pub command : is_some f.command ≡ true → is_failed s f ≡ true
  pub contactor : is_keep f.contactor ≡ false → is_failed s f ≡ true
  pub dismiss : f.dismiss ≡ true → (is_failed s f ≡ true) × (s.holds ≡ true)
  pub give : is_some f.give ≡ true → (is_failed s f ≡ true) × (s.holds ≡ f.dismiss)

-- the same of both sides; a place that is given has its object, and is not given to both
pub record MayHaveBoth (s : Standings) (f : FaultData) : Type 0 where
  pub a : MayHave s.a f.a
  pub b : MayHave s.b f.b
  pub left_a : IfSome f.a.give (λ i. is_left s.left f.b.give i ≡ true)
  pub left_b : IfSome f.b.give (λ i. is_left s.left f.a.give i ≡ true)

-- the ticks of a script, one after the other, may have their faults
abbrev pub MayFollow : Standings → List InputData → Type 0
MayFollow s [] = Unit {0}
MayFollow s (i ∷ inputs) = MayHaveBoth s i.faults × MayFollow (standings_after s i.faults) inputs

-- of Form Replay, for a crew with these places
pub record IsReplay (places : List Bool) (s : ScriptData) : Type 0 where
  pub config : IsInRange s.config
  pub few : length s.inputs ≤ s.config.ticks
  pub inputs : AllByRecursion IsInput s.inputs
  pub faults : MayFollow (all_stand places) s.inputs
  pub steps : s.steps ≡ []
