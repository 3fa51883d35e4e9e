-- The frames of the first seven ticks, worked out by hand.
use Rattle.std.proofs.Common.{◌≡◌, ℕ, List, [], ◌∷◌, Some, refl}
use Rattle.lift_model.specs.Records.{FrameData, Settings, InputData}
use Rattle.script_model.specs.Faults.{no_faults}
use Rattle.node_sim.specs.Produced.{produced, produced_from, frames_due}

abbrev config : Settings
config = record {
  ticks = 100;
  sct = 25;
  srvt = 20;
  disc = 5;
  door = 10;
  roof = 0x101;
  pit = 0x103;
  car = Some 0x105;
  doors = 0x107;
  panel = 0x109;
  platform = Some 0x10B;
}

abbrev frame : ℕ → ℕ → ℕ → FrameData
frame id x y = record { id = id; bytes = x ∷ y ∷ [] }

-- what the sources truly show at rest, and another word of the panel
abbrev at_rest : List ℕ
at_rest = 0x30 ∷ 0x10 ∷ 0x10 ∷ 0x0F ∷ 0x1234 ∷ 0x10 ∷ []

abbrev tick : List FrameData → InputData
tick frames = record { frames = frames; words = record { a = 0x09FF; b = 0x0600 }; truth = at_rest; faults = no_faults }

abbrev idle : InputData
idle = tick []

-- one source begins in each of the first six ticks, and its inverted frame follows a tick later; the first comes again after a cycle of 6
seven_ticks : produced config 6 (idle ∷ idle ∷ idle ∷ idle ∷ idle ∷ idle ∷ idle ∷ []) ≡
    tick (frame 0x101 0x30 0x00 ∷ [])
    ∷ tick (frame 0x102 0xCF 0xFF ∷ frame 0x103 0x10 0x00 ∷ [])
    ∷ tick (frame 0x104 0xEF 0xFF ∷ frame 0x105 0x10 0x00 ∷ [])
    ∷ tick (frame 0x106 0xEF 0xFF ∷ frame 0x107 0x0F 0x00 ∷ [])
    ∷ tick (frame 0x108 0xF0 0xFF ∷ frame 0x109 0x34 0x12 ∷ [])
    ∷ tick (frame 0x10A 0xCB 0xED ∷ frame 0x10B 0x10 0x00 ∷ [])
    ∷ tick (frame 0x101 0x30 0x00 ∷ frame 0x10C 0xEF 0xFF ∷ [])
    ∷ []
unfolding produced_from frames_due
seven_ticks = refl
