-- A head that may leave its ticks to the log, and what it says of a log and of its script (own).
use Rattle.std.specs.Prelude.{ℕ, ◌*◌, max, Bool, true, false, List, ◌++◌, codes, if◌then◌else◌, Result, Ok, Err}
use Rattle.lift_base.specs.declared.limits.TheConstants.{MOST_TICKS}
use Rattle.lift_model.specs.Records.{Settings}
use Rattle.lift_model.specs.Trace.{identifiers}
use Rattle.lift_config.specs.declared.Key.TheVariants.{Ticks}
use Rattle.lift_config.specs.declared.ConfigFault.{ConfigFault}
use Rattle.lift_config.specs.declared.ConfigFault.TheVariants.{Missing}
use Rattle.lift_config.specs.Head.{read_head}
use Rattle.can_log.specs.declared.head.Head.{Head}
use Rattle.can_log.specs.declared.log.Taking.{Taking}

-- ---- what a text means

-- a head whose first fault is that it has no `ticks`
abbrev pub lacks_ticks : ConfigFault → Bool
lacks_ticks (Missing Ticks) = true
lacks_ticks _ = false

-- the head with these settings
abbrev pub head_with : Bool → Result Settings ConfigFault → Result Head ConfigFault
head_with is_open (Ok config) = Ok (record { config = config; is_open = is_open })
head_with is_open (Err fault) = Err fault

-- the same text, with a line for one tick
abbrev pub with_a_tick : List ℕ → List ℕ
with_a_tick text = text ++ codes "\nticks = 1\n"

-- by what the text alone means
abbrev pub head_if : List ℕ → Result Settings ConfigFault → Result Head ConfigFault
head_if text (Ok config) = Ok (record { config = config; is_open = false })
head_if text (Err fault) = if lacks_ticks fault then head_with true (read_head (with_a_tick text)) else Err fault

-- the head that a text means: where it has no `ticks`, they are left to the log
unfoldable pub log_head : List ℕ → Result Head ConfigFault
log_head text = head_if text (read_head text)

-- ---- what it says

-- how many ticks a log may have
abbrev pub most_of : Head → ℕ
most_of head = if head.is_open then MOST_TICKS else head.config.ticks

-- how a log is taken: by the identifiers, in ticks of so many milliseconds
abbrev pub taking_of : Head → ℕ → Taking
taking_of head milliseconds = record { ids = identifiers head.config; tick = 1000 * milliseconds; most = most_of head }

-- the settings of the script of a log with so many ticks
abbrev pub settings_of : Head → ℕ → Settings
settings_of head ticks = if head.is_open then record head.config { ticks = max ticks 1 } else head.config
