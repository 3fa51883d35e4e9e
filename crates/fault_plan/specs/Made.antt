-- The script of a single fault, and the same script with a reset. All own.
use Rattle.std.specs.Prelude.{ℕ, ◌+◌, ◌==◌, if◌then◌else◌, List, [], ◌∷◌, bit_and, bit_or}
use Rattle.lift_model.specs.Records.{InputData, WireWords}
use Rattle.script_model.specs.Judging.{ScriptData}
use Rattle.fault_plan.specs.declared.single.SingleFault.{SingleFault}
use Rattle.fault_plan.specs.declared.words.TickWords.{TickWords}
use Rattle.fault_plan.specs.Doing.{faults_in}

-- the inputs with the faults of this one, and nothing else changed; the first is of tick n
unfoldable pub inputs_with : List TickWords → SingleFault → ℕ → List InputData → List InputData
inputs_with words f n [] = []
inputs_with words f n (input ∷ inputs) = record input { faults = faults_in words f n } ∷ inputs_with words f (n + 1) inputs

-- the replay of this script's settings and inputs, with the faults of this one in place of its own
abbrev pub script_with : List TickWords → SingleFault → ScriptData → ScriptData
script_with words f s = record { config = s.config; inputs = inputs_with words f 1 s.inputs; steps = [] }

-- the authorised reset is made: bit 9, in both words
abbrev pub reset_made : WireWords → WireWords
reset_made w = record { a = bit_or w.a 512; b = bit_and w.b 65023 }

-- the inputs with the reset made in tick r, and nothing else changed; the first is of tick n
unfoldable pub inputs_reset : ℕ → ℕ → List InputData → List InputData
inputs_reset r n [] = []
inputs_reset r n (input ∷ inputs) =
    (if n == r then record input { words = reset_made input.words } else input) ∷ inputs_reset r (n + 1) inputs

abbrev pub script_reset : ℕ → ScriptData → ScriptData
script_reset r s = record { config = s.config; inputs = inputs_reset r 1 s.inputs; steps = [] }
