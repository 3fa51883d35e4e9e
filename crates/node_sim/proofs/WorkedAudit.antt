-- The audit of a usual ride, worked out by hand.
use Rattle.std.proofs.Common.{◌≡◌, ℕ, false, List, [], ◌∷◌, None, Some, refl}
use Rattle.lift_model.specs.Bits.{first_below}
use Rattle.lift_model.specs.Enums.{Kind, Off, Full}
use Rattle.lift_model.specs.Live.{is_pair}
use Rattle.lift_model.specs.Records.{FrameData, Settings, InputData}
use Rattle.core_model.specs.Settling.{Settled, Out}
use Rattle.core_model.specs.Words.{command_word}
use Rattle.script_model.specs.Faults.{no_faults}
use Rattle.node_sim.specs.Audited.{first_wrong_pair, first_wrong_in, oldest_age, oldest_at, oldest_from, unhealthy_ticks, unhealthy_from}

abbrev config : Settings
config = record {
  ticks = 100;
  sct = 25;
  srvt = 20;
  disc = 5;
  door = 10;
  roof = 0x101;
  pit = 0x103;
  car = Some 0x105;
  doors = 0x107;
  panel = 0x109;
  platform = None;
}

abbrev frame : ℕ → ℕ → ℕ → FrameData
frame id x y = record { id = id; bytes = x ∷ y ∷ [] }

-- a tick with these frames and true words; the request is 1 or 0
abbrev tick : List FrameData → ℕ → ℕ → List ℕ → InputData
tick frames a b truth = record { frames = frames; words = record { a = a; b = b }; truth = truth; faults = no_faults }

-- what the sources truly show at rest
abbrev at_rest : List ℕ
at_rest = 0x30 ∷ 0x10 ∷ 0x10 ∷ 0x0F ∷ 0x00 ∷ 0x00 ∷ []

-- ---- five ticks: all pairs come at the first, the request at the third, power at the fourth and fifth

abbrev pairs : List FrameData
pairs =
    frame 0x101 0x30 0x00 ∷ frame 0x102 0xCF 0xFF ∷ frame 0x103 0x10 0x00 ∷ frame 0x104 0xEF 0xFF ∷ frame 0x105 0x10 0x00
    ∷ frame 0x106 0xEF 0xFF
    ∷ frame 0x107 0x0F 0x00 ∷ frame 0x108 0xF0 0xFF ∷ frame 0x109 0x00 0x00 ∷ frame 0x10A 0xFF 0xFF ∷ []

abbrev request : List ℕ → List InputData
request truth =
    tick pairs 0x01FF 0x0E00 truth ∷ tick [] 0x01FF 0x0E00 truth ∷ tick [] 0x09FF 0x0600 truth ∷ tick [] 0x09FF 0x0600 truth
    ∷ tick [] 0x09FF 0x0600 truth ∷ []

abbrev out : Kind → ℕ → Out
out kind stamp = record {
  kind = kind;
  forced = false;
  word = command_word
      (record { stamp = stamp; kind = kind; reason = 0; detail = 0; alarm = false });
  seen = 0;
}

abbrev settled : Kind → ℕ → Settled
settled kind stamp = record { power = kind; alarm = false; a = out kind stamp; b = out kind stamp }

abbrev path : List Settled
path = settled Off 0 ∷ settled Off 1 ∷ settled Off 2 ∷ settled Full 3 ∷ settled Full 4 ∷ []

-- the roof truly shows 0, and its pair of tick 1 says 30
roof_is_wrong : first_wrong_pair config (request (0 ∷ 0 ∷ 0 ∷ 0 ∷ 0 ∷ 0 ∷ [])) ≡ Some (record { tick = 1; source = 1 })
unfolding first_wrong_in first_below is_pair
roof_is_wrong = refl

all_is_true : first_wrong_pair config (request at_rest) ≡ None
unfolding first_wrong_in first_below is_pair
all_is_true = refl

-- the sample of tick 4 stands on plain frames of tick 1
three_ticks_old : oldest_age config (request at_rest) path ≡ Some 3
unfolding oldest_from oldest_at is_pair
three_ticks_old = refl

both_are_healthy : unhealthy_ticks (request at_rest) path ≡ 0
unfolding unhealthy_from
both_are_healthy = refl
