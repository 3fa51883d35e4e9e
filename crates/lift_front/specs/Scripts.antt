-- The script that a job runs, and why a text has none.
use Rattle.std.specs.Prelude.{ℕ, ◌≡◌, ◌<◌, ◌≤◌, ◌+◌, Bool, List, IsSomeAnd}
use Rattle.std.specs.declared.option.Option.{Option}
use Rattle.std.specs.declared.option.Option.TheVariants.{None, Some}
use Rattle.std.specs.Io.KnownBytes.{Consumes}
use Rattle.lift_base.specs.declared.forms.Form.{Form}
use Rattle.lift_base.specs.declared.forms.Form.TheVariants.{Simulate}
use Rattle.node_sim.specs.Laws.{Serves}
use Rattle.node_sim.specs.Produced.{produced_script}
use Rattle.script_model.specs.Judging.{ScriptData}
use Rattle.script_model.specs.declared.refusals.Refusal.{Refusal}
use Rattle.script_model.specs.Meaning.{MeansScript, IsRefused, IsOpen, reading}
use Rattle.lift_front.specs.Calls.{Call, IsCalm, HasFailed}
use Rattle.lift_front.specs.declared.fault.Fault.{Fault}
use Rattle.lift_front.specs.declared.fault.Fault.TheVariants as fault

-- where the script comes from that is run
pub data Origin : Type 0 where
  -- the text of the source means it, in this form, for a crew that has an object at these places
  Text : Form → List Bool → Origin
  -- the producers of this cycle make it of a simulation that the text of the source means, for such a crew
  Produced : ℕ → List Bool → Origin
  -- the command alone tells it, and nothing is read
  Told : ScriptData → Origin

-- of the bytes of the source, where it tells them, and else of some bytes
abbrev pub OfBytes : Option (List ℕ) → (List ℕ → Type 0) → Type 0
OfBytes None P = (bytes : List ℕ) × P bytes
OfBytes (Some bytes) P = P bytes

-- the bytes mean a simulation, in which a pair counts until the next of its source is whole, and this script is produced of it
pub record MeansProduced (cycle : ℕ) (places : List Bool) (bytes : List ℕ) (script : ScriptData) : Type 0 where
  pub simulation : ScriptData
  pub means : MeansScript Simulate places bytes simulation
  pub short : cycle ≤ simulation.config.sct + 1
  pub produced : script ≡ produced_script cycle simulation

-- the script of an origin, where these bytes are left in the source
abbrev pub HasScript : Origin → Option (List ℕ) → ScriptData → Type 0
HasScript (Text form places) left script = OfBytes left (λ bytes. MeansScript form places bytes script)
HasScript (Produced cycle places) left script =
    Serves script.config cycle × OfBytes left (λ bytes. MeansProduced cycle places bytes script)
HasScript (Told told) left script = script ≡ told

-- the same, known from what the source tells
abbrev pub TellsScript : Origin → Option (List ℕ) → ScriptData → Type 0
TellsScript (Text form places) left script = IsSomeAnd left (λ bytes. MeansScript form places bytes script)
TellsScript (Produced cycle places) left script = IsSomeAnd left (λ bytes. MeansProduced cycle places bytes script)
TellsScript (Told told) left script = script ≡ told

-- there is none, and this is the first refusal of the text
abbrev pub HasRefusal : Origin → Option (List ℕ) → Refusal → Type 0
HasRefusal (Text form places) left refusal = OfBytes left (λ bytes. IsRefused form places bytes refusal)
HasRefusal (Produced cycle places) left refusal = OfBytes left (λ bytes. IsRefused Simulate places bytes refusal)
HasRefusal (Told told) left refusal = ⊥

-- it is not known yet, nor that there is none: the bytes that were taken hold neither a refusal nor a whole line `e`
abbrev pub IsUndecided : Origin → Option (List ℕ) → Option (List ℕ) → Type 0
IsUndecided (Text form places) left after = (taken : List ℕ) × Consumes left after taken × IsOpen (reading form places taken)
IsUndecided (Produced cycle places) left after = (taken : List ℕ) × Consumes left after taken × IsOpen (reading Simulate places taken)
IsUndecided (Told told) left after = ⊥

-- the cycle is longer than a pair counts by the head of the simulation that the text means
abbrev pub IsTooLong : Origin → Option (List ℕ) → Type 0
IsTooLong (Text form places) left = ⊥
IsTooLong (Produced cycle places) left =
    OfBytes left (λ bytes. (s : ScriptData) × MeansScript Simulate places bytes s × (s.config.sct + 1 < cycle))
IsTooLong (Told told) left = ⊥

-- why there is no script to run: a read failed before the text was known, or, where no read failed, the text has none or its cycle is too
-- long
abbrev pub NotRead : Origin → Fault → Call → Type 0
NotRead origin fault.Memory source = IsCalm source
NotRead origin fault.Words source = ⊥
NotRead origin fault.Read source = HasFailed source × IsUndecided origin source.bytes_before source.bytes_after
NotRead origin (fault.Text f) source = IsCalm source × HasRefusal origin source.bytes_before f
NotRead origin (fault.Step line) source = ⊥
NotRead origin fault.Cycle source = IsCalm source × IsTooLong origin source.bytes_before
NotRead origin fault.Disk source = ⊥
NotRead origin (fault.Record i) source = ⊥
NotRead origin fault.Full source = ⊥
