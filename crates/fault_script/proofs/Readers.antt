-- What a reader stands for after a piece, and at the end.
use Rattle.std.proofs.Common.{◌≡◌, ◌+◌, Bool, List, ℕ, length, take, drop, sym, ap, ◌∙◌, subst, arith, Result, Ok, Err, IfOk, None, Some}
use Rattle.std.proofs.lemmas.List.{take-append-drop}
use Rattle.lift_base.specs.declared.forms.Form.{Form}
use Rattle.lift_config.specs.Head.{read_head}
use Rattle.script_model.proofs.Bytes.{take_bytes-append}
use Rattle.script_model.proofs.Counting.{read_count}
use Rattle.script_model.proofs.SimulationKept.{meant_keeps_form}
use Rattle.script_model.specs.Judging.{ScriptData}
use Rattle.script_model.specs.Meaning.{Reading, Ended, IsOpen, bytes_of, take_bytes, finished, outcome, meaning}
use Rattle.script_model.specs.Rules.{KeepsForm}
use Rattle.script_model.specs.declared.refusals.Refusal.TheVariants.{NoEnd}
use Rattle.fault_script.specs.declared.fed.Fed.{Fed}
use Rattle.fault_script.specs.declared.fed.Fed.TheVariants as fed
use Rattle.fault_script.specs.declared.reader.State.{State}
use Rattle.fault_script.specs.declared.reader.State.TheVariants as state
use Rattle.fault_script.specs.declared.script_fault.ScriptFault.{ScriptFault}
use Rattle.fault_script.specs.Refusals.{Stops, Misses}
use Rattle.fault_script.specs.Reads.{Stands}
use Rattle.fault_script.specs.Says.{Says}
use Rattle.fault_script.specs.Tells.{Tells}
use Rattle.fault_script.specs.Views.{HeadData, BodyData, in_head, in_line, behind_head}
use Rattle.fault_script.specs.Went.{BodyFed, HeadFed}
use Rattle.fault_script.proofs.Stopping.{still_on, over_on, missed}

-- a piece leads a reader from one state to the other, and is told of so
abbrev pub Feeds : State → List ℕ → Result Fed ScriptFault → State → Type 0
Feeds s piece told s' = (r : Reading) → Stands s r → Stands s' (take_bytes r piece) × Tells told r (take_bytes r piece)

-- the two parts of it
abbrev pub Leads : State → List ℕ → State → Type 0
Leads s piece s' = (r : Reading) → Stands s r → Stands s' (take_bytes r piece)

abbrev pub TellsOf : State → List ℕ → Result Fed ScriptFault → Type 0
TellsOf s piece told = (r : Reading) → Stands s r → Tells told r (take_bytes r piece)

-- a piece leads the lines on so
abbrev pub LinesFed : BodyData → BodyData → List ℕ → Result Fed ScriptFault → Type 0
LinesFed old new piece told = (used : ℕ) → BodyFed told new used (length piece) (take_bytes (in_line old used) piece)

abbrev pub left_by : Result Fed ScriptFault → BodyData → State
left_by (Ok fed.More) new = state.Body new
left_by (Ok (fed.Ended k)) new = state.Ended new.place.script
left_by (Err f) new = state.Stopped f

from_lines : (told : Result Fed ScriptFault) (old new : BodyData) (piece : List ℕ) (r : Reading) (used : ℕ) → r ≡ in_line old used
    → BodyFed told new used (length piece) (take_bytes r piece)
    → Stands (left_by told new) (take_bytes r piece) × Tells told r (take_bytes r piece)
unfolding Stands
from_lines (Ok fed.More) old new piece r used is led = ((used + length piece, led), subst IsOpen (sym led) tt)
from_lines (Ok (fed.Ended k)) old new piece r used is led =
    let count : used ≡ bytes_of r = sym (ap bytes_of is) in
    ((used + k, led), (new.place.script, led ∙ ap (λ (u : ℕ). Ended new.place.script (u + k)) count))
from_lines (Err f) old new piece r used is led = (led, led)

pub lines_fed : (s s' : State) (old new : BodyData) (piece : List ℕ) (told : Result Fed ScriptFault) → s ≡ state.Body old
    → s' ≡ left_by told new → LinesFed old new piece told → Feeds s piece told s'
unfolding Stands
lines_fed s s' old new piece told is left led r stands =
    let e : (used : ℕ) × (r ≡ in_line old used) = subst (λ (x : State). Stands x r) is stands in
    let here = subst (λ (x : Reading). BodyFed told new e.0 (length piece) (take_bytes x piece)) (sym e.1) (led e.0) in
    let both = from_lines told old new piece r e.0 e.1 here in
    (subst (λ (x : State). Stands x (take_bytes r piece)) (sym left) both.0, both.1)

pub ended_stays : (s : State) (script : ScriptData) (piece : List ℕ) → s ≡ state.Ended script → Feeds s piece (Ok (fed.Ended 0)) s
unfolding Stands
ended_stays s script piece is r stands =
    let e : (used : ℕ) × (r ≡ Ended script used) = subst (λ (x : State). Stands x r) is stands in
    let all : take_bytes r piece ≡ Ended script e.0 = over_on r e.0 piece script e.1 in
    let new : Stands (state.Ended script) (take_bytes r piece) = (e.0, all) in
    let count : e.0 ≡ bytes_of r + 0 = sym (ap bytes_of e.1) ∙ omega arith in
    (subst (λ (x : State). Stands x (take_bytes r piece)) (sym is) new, (script, all ∙ ap (Ended script) count))

pub stopped_stays : (s : State) (f : ScriptFault) (piece : List ℕ) → s ≡ state.Stopped f → Feeds s piece (Err f) (state.Stopped f)
unfolding Stands
stopped_stays s f piece is r stands =
    let stop : Stops f (take_bytes r piece) = still_on f r piece (subst (λ (x : State). Stands x r) is stands) in (stop, stop)

pub head_on : (s : State) (old new : HeadData) (piece : List ℕ) → s ≡ state.Head old → HeadFed (Ok None) old new piece
    → Feeds s piece (Ok fed.More) (state.Head new)
unfolding Stands
head_on s old new piece is led r stands =
    let e : r ≡ in_head old = subst (λ (x : State). Stands x r) is stands in
    let all : take_bytes r piece ≡ in_head new = ap (λ (x : Reading). take_bytes x piece) e ∙ led in
    (all, subst IsOpen (sym all) tt)

pub head_stopped : (s s' : State) (old : HeadData) (f : ScriptFault) (piece : List ℕ) → s ≡ state.Head old → s' ≡ state.Stopped f
    → Stops f (take_bytes (in_head old) piece) → Feeds s piece (Err f) s'
unfolding Stands
head_stopped s s' old f piece is is' stops r stands =
    let e : r ≡ in_head old = subst (λ (x : State). Stands x r) is stands in
    let stop : Stops f (take_bytes r piece) = subst (λ (x : Reading). Stops f (take_bytes x piece)) (sym e) stops in
    let new : Stands (state.Stopped f) (take_bytes r piece) = stop in
    (subst (λ (x : State). Stands x (take_bytes r piece)) (sym is') new, stop)

-- the same of a piece that begins so many bytes earlier
abbrev pub told_after : ℕ → Result Fed ScriptFault → Result Fed ScriptFault
told_after n (Ok fed.More) = Ok fed.More
told_after n (Ok (fed.Ended k)) = Ok (fed.Ended (n + k))
told_after n (Err f) = Err f

tells_after : (n : ℕ) (told : Result Fed ScriptFault) (r mid r' : Reading) → bytes_of mid ≡ bytes_of r + n → Tells told mid r'
    → Tells (told_after n told) r r'
tells_after n (Ok fed.More) r mid r' count told = told
tells_after n (Ok (fed.Ended k)) r mid r' count told =
    let further : bytes_of mid + k ≡ bytes_of r + (n + k) = omega (arith, count) in
    (told.0, told.1 ∙ ap (Ended told.0) further)
tells_after n (Err f) r mid r' count told = told

-- the rest of a piece is read after the head that its front makes whole
pub rest_fed : (s mid last : State) (old new : HeadData) (piece rest : List ℕ) (n : ℕ) (told : Result Fed ScriptFault) → s ≡ state.Head old
    → rest ≡ drop n piece → HeadFed (Ok (Some n)) old new piece → ((used : ℕ) → Stands mid (behind_head new used)) → Leads mid rest last
    → TellsOf mid rest told → Feeds s piece (told_after n told) last
unfolding Stands
rest_fed s mid last old new piece rest n told is tail led begun leads tells r stands =
    let e : r ≡ in_head old = subst (λ (x : State). Stands x r) is stands in
    let used = bytes_of r + n in
    let all : take_bytes r piece ≡ take_bytes (behind_head new used) rest =
    ap (take_bytes r) (sym (take-append-drop n piece))
    ∙ take_bytes-append r (take n piece) (drop n piece)
    ∙ ap (λ (x : Reading). take_bytes (take_bytes x (take n piece)) (drop n piece)) e
    ∙ ap (λ (x : Reading). take_bytes x (drop n piece)) led.1
    ∙ ap (λ (u : ℕ). take_bytes (behind_head new (u + n)) (drop n piece)) (sym (ap bytes_of e))
    ∙ ap (take_bytes (behind_head new used)) (sym tail) in
    let mid_reading = behind_head new used in
    let count = read_count new.form new.places (read_head new.lines) (new.number + 1) used in
    let further = tells_after n told r mid_reading (take_bytes mid_reading rest) count (tells mid_reading (begun used)) in
    (subst (Stands last) (sym all) (leads mid_reading (begun used)), subst (Tells (told_after n told) r) (sym all) further)

pub head_finishes : (s : State) (h : HeadData) (r : Reading) → s ≡ state.Head h → Stands s r → outcome (finished r) ≡ Err NoEnd
unfolding Stands
head_finishes s h r is stands =
    let e : r ≡ in_head h = subst (λ (x : State). Stands x r) is stands in
    ap (λ (x : Reading). outcome (finished x)) e

pub body_finishes : (s : State) (b : BodyData) (result : Result ScriptData ScriptFault) (r : Reading) → s ≡ state.Body b
    → ((used : ℕ) → Says result (finished (in_line b used))) → Stands s r → Says result (finished r)
unfolding Stands
body_finishes s b result r is got stands =
    let e : (used : ℕ) × (r ≡ in_line b used) = subst (λ (x : State). Stands x r) is stands in
    subst (λ (x : Reading). Says result (finished x)) (sym e.1) (got e.0)

pub ended_finishes : (s : State) (script : ScriptData) (r : Reading) → s ≡ state.Ended script → Stands s r
    → outcome (finished r) ≡ Ok script
unfolding Stands
ended_finishes s script r is stands =
    let e : (used : ℕ) × (r ≡ Ended script used) = subst (λ (x : State). Stands x r) is stands in
    ap (λ (x : Reading). outcome (finished x)) e.1

pub stopped_finishes : (s : State) (f : ScriptFault) (r : Reading) → s ≡ state.Stopped f → Stands s r → Misses f (finished r)
unfolding Stands
stopped_finishes s f r is stands = missed f r (subst (λ (x : State). Stands x r) is stands)

-- a script that was read keeps its form
pub read_keeps_form : (form : Form) (result : Result ScriptData ScriptFault) (places : List Bool) (text : List ℕ)
    → Says result (meaning form places text) → IfOk result (KeepsForm form places)
read_keeps_form form (Ok script) places text says = meant_keeps_form form places text script says
read_keeps_form form (Err fault) places text says = tt
