-- What ticks settle, and short runs, computed by hand. 1000007 is Full at stamp 7, 10002000007 is Up at stamp 7 with the alarm.
use Rattle.std.proofs.Common.{◌≡◌, ℕ, Bool, true, false, [], ◌∷◌, get_or, None, Some, refl}
use Rattle.lift_base.specs.Ruling.{Ruling}
use Rattle.lift_base.specs.declared.Kind.{Kind}
use Rattle.lift_base.specs.declared.Kind.TheVariants.{Off, Full, Up, Down}
use Rattle.lift_base.specs.declared.Mode.TheVariants.{Normal}
use Rattle.lift_base.specs.declared.Override.TheVariants.{Follow, Force}
use Rattle.lift_base.specs.declared.Side.TheVariants.{A, B}
use Rattle.lift_model.specs.Records.{InputData}
use Rattle.core_model.specs.Due.{due, due_command}
use Rattle.core_model.specs.Machine.{Channel, new_channel, settled_by}
use Rattle.core_model.specs.Runs.{is_healthy_at}
use Rattle.core_model.specs.Schedule.{ActData, scheduled}
use Rattle.core_model.specs.Settling.{Out, Settled, effective, ordered}
use Rattle.core_model.specs.declared.SideStep.TheVariants.{Fail, Sample, RoguePublish, RogueContactor}
use Rattle.core_model.specs.Machine as machine
use Rattle.core_model.specs.Schedule as acts

abbrev out : Kind → Bool → ℕ → ℕ → Out
out kind forced word seen = record { kind = kind; forced = forced; word = word; seen = seen }

abbrev settles : Kind → Bool → Out → Out → Settled
settles power alarm a b = record { power = power; alarm = alarm; a = a; b = b }

-- a side with this command word and seen word
abbrev side : ℕ → ℕ → Channel
side command seen = record new_channel { command = command; seen = seen }

-- ---- a tick

both_full : settled_by (side 0x01000007 0x11) (side 0x01000007 0x22) 8
    ≡ settles Full false (out Full false 0x01000007 0x11) (out Full false 0x01000007 0x22)
both_full = refl

-- the word of stamp 7 counts at the ticks 7, 8 and 9
last_tick_of_a_word : effective 0x01000007 9 ≡ Full
last_tick_of_a_word = refl

stale_word : effective 0x01000007 10 ≡ Off
stale_word = refl

early_word : effective 0x01000007 6 ≡ Off
early_word = refl

-- at tick 9 the word of stamp 6 is stale, so A gives Off
stale_contactor : settled_by (side 0x01000006 0) (side 0x01000007 0) 9
    ≡ settles Off false (out Off false 0x01000006 0) (out Full false 0x01000007 0)
stale_contactor = refl

-- A is welded at Full while its word is Off, and B follows its word
forced_contactor : settled_by (record (side 0x00000007 0) { forced = Some Full }) (side 0x01000007 0) 8
    ≡ settles Full false (out Full true 0x00000007 0) (out Full false 0x01000007 0)
forced_contactor = refl

kinds_differ : settled_by (side 0x02000007 0) (side 0x03000007 0) 8
    ≡ settles Off false (out Up false 0x02000007 0) (out Down false 0x03000007 0)
kinds_differ = refl

-- the alarm bit of either word sounds the alarm, while power is on
one_alarm : settled_by (side 0x02000007 0) (side 0x010002000007 0) 8
    ≡ settles Up true (out Up false 0x02000007 0) (out Up false 0x010002000007 0)
one_alarm = refl

no_power_no_alarm : settled_by (side 0x03000007 0) (side 0x010002000007 0) 8
    ≡ settles Off false (out Down false 0x03000007 0) (out Up false 0x010002000007 0)
no_power_no_alarm = refl

follows_again : ordered (Some Full) Follow ≡ None
follows_again = refl

-- ---- what is due

abbrev granted : Kind → Ruling
granted kind = record { kind = kind; clause = 0; detail = 0; mode = Normal; bypass = false }

-- Full at the ticks 1 and 2, Up from 3 on
abbrev verdicts : ℕ → Ruling
verdicts n = get_or (granted Off ∷ granted Full ∷ granted Full ∷ granted Up ∷ granted Up ∷ []) n (granted Off)

due_twice : due verdicts 2 ≡ Full
unfolding due
due_twice = refl

-- one tick of Off at the change, for reason 16
due_changeover : due_command verdicts 3 ≡ record { stamp = 3; kind = Off; reason = 16; detail = 0; alarm = false }
unfolding due
due_changeover = refl

due_behind_it : due verdicts 4 ≡ Up
unfolding due
due_behind_it = refl

-- ---- events

-- a Fail behind a Tick counts from the next Tick on
healthy_at_its_tick : (i j : InputData) → is_healthy_at A (machine.Tick i ∷ machine.Step A Fail ∷ machine.Tick j ∷ []) 1 ≡ true
healthy_at_its_tick i j = refl

failed_at_the_next : (i j : InputData) → is_healthy_at A (machine.Tick i ∷ machine.Step A Fail ∷ machine.Tick j ∷ []) 2 ≡ false
failed_at_the_next i j = refl

other_side_is_healthy : (i j : InputData) → is_healthy_at B (machine.Tick i ∷ machine.Step A Fail ∷ machine.Tick j ∷ []) 2 ≡ true
other_side_is_healthy i j = refl

-- the second Tick is that of the second input, wherever it stands
written_steps : (i j : InputData)
    → scheduled (i ∷ j ∷ []) (acts.Tick ∷ acts.Step A Fail ∷ acts.Step A (RoguePublish 5) ∷ acts.Tick
    ∷ acts.Step A (RogueContactor (Force Full))
    ∷ acts.Step B Sample ∷ [])
    ≡ machine.Tick i ∷ machine.Step A Fail ∷ machine.Step A (RoguePublish 5)
    ∷ machine.Tick j ∷ machine.Step A (RogueContactor (Force Full)) ∷ machine.Step B Sample ∷ []
written_steps i j = refl
