-- A log's script keeps the ranges of a replay.
use Rattle.std.proofs.Common.{ℕ, zero, suc, ◌≡◌, ◌<◌, ◌^◌, ◌==◌, nat_le, Bool, true, false, List, [], ◌∷◌, length, refl, arith, length-append}
use Rattle.std.specs.List.{AllByRecursion}
use Rattle.can_frame.specs.Frames.{IsFrameData}
use Rattle.lift_base.specs.declared.TheConstants.{SOURCES}
use Rattle.lift_base.specs.declared.forms.Form.TheVariants.{Replay}
use Rattle.lift_model.specs.Records.{WireWords, Settings, InputData}
use Rattle.script_model.specs.Faults.{all_stand}
use Rattle.script_model.specs.Meaning.{MeansScript}
use Rattle.script_model.specs.Valid.{IsInput, IsReplay}
use Rattle.script_model.proofs.Each.{all_same}
use Rattle.script_model.proofs.GeneratedRules.{IsCalm, all_push, calm_follows}
use Rattle.can_log.specs.declared.log.Taken.{Taken}
use Rattle.can_log.specs.declared.wires.WireRow.{WireRow}
use Rattle.can_log.specs.Taken.{LogData, tick_at, first_or, frames_in}
use Rattle.can_log.specs.Scripts.{all_zero, words_in, words_at, input_at, inputs_to, script_of}
use Rattle.can_log.specs.RunsText.{log_text, IsHeard}
use Rattle.can_log.specs.Rows.{HasRanges}
use Rattle.can_log.proofs.RunsBack.{log_is_read}

frame_by : (n : ℕ) (t : Taken) (ts : List Taken) (test : Bool) → (t.tick == n) ≡ test → IsFrameData t.frame
    → AllByRecursion IsFrameData (frames_in n ts) → AllByRecursion IsFrameData (frames_in n (t ∷ ts))
frame_by n t ts true is one rest = rw is (one, rest)
frame_by n t ts false is one rest = rw is rest

frames_fit : (n : ℕ) (ts : List Taken) → AllByRecursion (λ t. IsFrameData t.frame) ts → AllByRecursion IsFrameData (frames_in n ts)
frames_fit n [] all = tt
frames_fit n (t ∷ ts) (one, all) = frame_by n t ts (t.tick == n) refl one (frames_fit n ts all)

abbrev FitWords : WireWords → Type 0
FitWords w = (w.a < 2 ^ 16) × (w.b < 2 ^ 16)

words_by : (first tick n : ℕ) (before : WireWords) (r : WireRow) (rows : List WireRow) (test : Bool)
    → nat_le (tick_at first tick r.time) n ≡ test → FitWords before → FitWords (words_at first tick n (words_in r) rows)
    → FitWords (words_at first tick n before (r ∷ rows))
words_by first tick n before r rows true is old new = rw is new
words_by first tick n before r rows false is old new = rw is old

words_fit : (first tick n : ℕ) (before : WireWords) (rows : List WireRow) → FitWords before
    → AllByRecursion (λ r. (r.a < 2 ^ 16) × (r.b < 2 ^ 16)) rows → FitWords (words_at first tick n before rows)
words_fit first tick n before [] fit all = fit
words_fit first tick n before (r ∷ rows) fit (one, all) =
    words_by first tick n before r rows (nat_le (tick_at first tick r.time) n) refl fit (words_fit first tick n (words_in r) rows one all)

input_fits : (config : Settings) (log : LogData) (rows : List WireRow) (n : ℕ) → HasRanges config log rows → IsInput (input_at log rows n)
input_fits config log rows n is =
    let w = words_fit (first_or 0 log.first) log.taking.tick n all_zero rows (omega arith, omega arith) is.words in
    record {
      few = is.few n;
      frames = frames_fit n log.taken is.frames;
      a = w.0;
      b = w.1;
      sources = refl;
      truth = all_same (λ (x : ℕ). x < 2 ^ 16) SOURCES 0 (omega arith);
      faults_a = record { publish = tt; command = tt; give = tt };
      faults_b = record { publish = tt; command = tt; give = tt };
    }

each : (P : InputData → Type 0) (log : LogData) (rows : List WireRow) → ((n : ℕ) → P (input_at log rows n)) → (n : ℕ)
    → AllByRecursion P (inputs_to log rows n)
unfolding inputs_to
each P log rows one zero = tt
each P log rows one (suc n) = all_push P (inputs_to log rows n) (input_at log rows (suc n)) (each P log rows one n) (one (suc n))

long : (log : LogData) (rows : List WireRow) (n : ℕ) → length (inputs_to log rows n) ≡ n
unfolding inputs_to
long log rows zero = refl
long log rows (suc n) =
    omega (arith, long log rows n, length-append (inputs_to log rows n) (input_at log rows (suc n) ∷ []))

replay_of : (places : List Bool) (config : Settings) (log : LogData) (rows : List WireRow) → HasRanges config log rows
    → IsReplay places (script_of config log rows)
replay_of places config log rows is = record {
  config = is.config_is;
  few = omega (arith, is.room, long log rows log.ticks);
  inputs = each IsInput log rows (λ n. input_fits config log rows n is) log.ticks;
  faults = calm_follows (all_stand places) (inputs_to log rows log.ticks) (each IsCalm log rows (λ n. refl) log.ticks);
  steps = refl;
}

pub read_back : (places : List Bool) (config : Settings) (log : LogData) (rows : List WireRow) → HasRanges config log rows
    → MeansScript Replay places (log_text (script_of config log rows)) (script_of config log rows)
read_back places config log rows is =
    log_is_read places (script_of config log rows) (replay_of places config log rows is)
    (each IsHeard log rows (λ n. record { truth = refl; faults = refl }) log.ticks)
