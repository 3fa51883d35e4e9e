-- What the program's types are seen as: plain records. All own.
use Rattle.std.specs.Prelude.{ℕ, Bool, List, Option}
use Rattle.lift_model.specs.Enums.{Override}

-- a CAN data frame: its identifier, and its bytes
pub record FrameData : Type 0 where
  pub id : ℕ
  pub bytes : List ℕ

-- the two words of the antivalent wires at one tick, bit i for wire i
pub record WireWords : Type 0 where
  pub a : ℕ
  pub b : ℕ

-- what the clauses look at: the live value of each source, by index, and the words of the wires
pub record ImageData : Type 0 where
  pub values : List (Option ℕ)
  pub words : WireWords

-- what the head of a script says: lengths in ticks, and the plain identifier of each source
pub record Settings : Type 0 where
  pub ticks : ℕ
  pub sct : ℕ
  pub srvt : ℕ
  pub disc : ℕ
  pub door : ℕ
  pub roof : ℕ
  pub pit : ℕ
  pub car : Option ℕ
  pub doors : ℕ
  pub panel : ℕ
  pub platform : Option ℕ

-- what the lines of a script do to one side in a tick
pub record SideFaultData : Type 0 where
  pub fail : Bool
  pub hold : Bool
  pub exchange : Bool
  pub publish : Option ℕ
  pub command : Option ℕ
  pub contactor : Override
  pub dismiss : Bool
  pub give : Option ℕ

-- the same of both sides
pub record FaultData : Type 0 where
  pub a : SideFaultData
  pub b : SideFaultData

-- what comes in at one tick: frames in order, wire words, the true word of each source, and what is done to the sides
pub record InputData : Type 0 where
  pub frames : List FrameData
  pub words : WireWords
  pub truth : List ℕ
  pub faults : FaultData

-- a trace: the inputs so far, that of tick 1 first, and how many there is room for
pub record TraceData : Type 0 where
  pub inputs : List InputData
  pub room : ℕ

-- what an object answers: a word to publish, a command word, an order to its contactor
pub record DeedData : Type 0 where
  pub publish : Option ℕ
  pub command : Option ℕ
  pub contactor : Override
