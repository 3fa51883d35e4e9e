-- What the producer of one source keeps.
use Rattle.std.specs.Prelude.{◌≡◌, ℕ, ◌+◌, ◌≤◌, ◌%◌, ◌^◌, Option}
use Rattle.lift_base.specs.declared.TheConstants.{SOURCES}
use Rattle.lift_base.specs.declared.limits.TheConstants.{LONGEST_SPAN}
use Rattle.lift_model.specs.Records.{FrameData}
use Rattle.node_sim.specs.Produced.{frame_due}
use Rattle.node_sim.specs.declared.cycles.TheConstants.{SHORTEST_CYCLE}

-- the number of its source, its plain identifier, its cycle, how many ticks it took, and the word of the last of them, 0 before the first
pub record ProducerData : Type 0 where
  pub source : ℕ
  pub plain : ℕ
  pub cycle : ℕ
  pub ticks : ℕ
  pub before : ℕ

-- an odd number from 257 to 383
pub record IsIdentifier (plain : ℕ) : Type 0 where
  pub least : 257 ≤ plain
  pub most : plain ≤ 383
  pub odd : plain % 2 ≡ 1

-- the ranges that every producer keeps
pub record IsProducer (source plain cycle ticks : ℕ) : Type 0 where
  pub first : 1 ≤ source
  pub last : source ≤ SOURCES
  pub identifier : IsIdentifier plain
  pub least : SHORTEST_CYCLE ≤ cycle
  pub most : cycle ≤ LONGEST_SPAN
  pub few : ticks ≤ 2 ^ 24

-- what it sends at its next tick, where this is the true word of that tick
abbrev pub next_frame : ProducerData → ℕ → Option FrameData
next_frame p truth = frame_due p.cycle p.source p.plain (p.ticks + 1) truth p.before

-- the same producer one tick on
abbrev pub one_on : ProducerData → ℕ → ProducerData
one_on p truth = record { source = p.source; plain = p.plain; cycle = p.cycle; ticks = p.ticks + 1; before = truth }
