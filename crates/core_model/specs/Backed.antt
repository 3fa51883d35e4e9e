-- What power is backed by. All own.
use Rattle.std.specs.Prelude.{◌≡◌, ◌⊎◌, ℕ, ◌+◌, ◌-◌, ◌<◌, ◌≤◌, true, List, ◌∷◌, ◌++◌, length, get_or}
use Rattle.lift_model.specs.Enums.{Off, Side}
use Rattle.lift_model.specs.Grant.{grant}
use Rattle.lift_model.specs.Records.{Settings, InputData}
use Rattle.core_model.specs.Machine.{State, Event, Step, side_of, other, start}
use Rattle.core_model.specs.Runs.{after_all, tick_count, before_tick, is_healthy_at}
use Rattle.core_model.specs.Settling.{Out, Settled, no_settled, out_at}
use Rattle.core_model.specs.Words.{stamp_of, matches}
use Rattle.core_model.specs.declared.SideStep.TheVariants.{Look}

-- the command word's stamp n is one or two ticks ago, n granted that kind, the seen word matches at n, and a bypass sounds the alarm
-- (5.12.1.8)
pub record BackedOn (config : Settings) (trace : List InputData) (t : ℕ) (s : Settled) (out : Out) : Type 0 where
  pub age : (stamp_of out.word + 1 ≡ t) ⊎ (stamp_of out.word + 2 ≡ t)
  pub granted : (grant config trace (stamp_of out.word)).kind ≡ s.power
  pub agreed : let n = stamp_of out.word in matches n (grant config trace n) (grant config trace (n - 1)) out.seen ≡ true
  pub signalled : (grant config trace (stamp_of out.word)).bypass ≡ true → s.alarm ≡ true

-- what tick t settled is backed for a side: power is Off, or it is backed by that side's words
abbrev pub Backed : Settings → List InputData → ℕ → Settled → Side → Type 0
Backed config trace t s side = (s.power ≡ Off) ⊎ BackedOn config trace t s (out_at side s)

-- for each tick and each side that is healthy at it, what was settled is backed
abbrev pub AllBacked : Settings → List Event → State → Type 0
AllBacked config events s = (t : ℕ) → 0 < t → t ≤ length s.path → (side : Side) → is_healthy_at side events t ≡ true
    → Backed config s.trace t (get_or s.path (t - 1) no_settled) side

-- a side made a Look among these events, after so many ticks or more, and `seen` is the other side's publish word as it stood then
pub record LookedAt (config : Settings) (events : List Event) (side : Side) (ticks seen : ℕ) : Type 0 where
  pub before : List Event
  pub rest : List Event
  pub look : events ≡ before ++ Step side Look ∷ rest
  pub recent : ticks ≤ tick_count before
  pub stood : seen ≡ (side_of (other side) (after_all config start before)).publish

-- For each tick and each side that is healthy at it, the word that it saw is the other side's: it found it there when it looked, at the
-- tick of its command's stamp or later. A side that has commanded nothing saw none, which is 0.
abbrev pub SeenIsOthers : Settings → List Event → List Settled → Type 0
SeenIsOthers config events path = (t : ℕ) → 0 < t → t ≤ length path → (side : Side) → is_healthy_at side events t ≡ true
    → let out = out_at side (get_or path (t - 1) no_settled) in
    (out.seen ≡ 0) ⊎ LookedAt config (before_tick t events) side (stamp_of out.word) out.seen
