-- What was refused stays so, whatever comes after it.
use Rattle.std.proofs.Common.{◌≡◌, ◌∙◌, List, ℕ, ap, Err, IfSome, Option, None, Some}
use Rattle.script_model.specs.declared.refusals.Refusal.{Refusal}
use Rattle.script_model.specs.declared.refusals.Refusal.TheVariants.{Line}
use Rattle.script_model.specs.Judging.{ScriptData, Place, Judged, More, Done, Refused}
use Rattle.script_model.specs.Meaning.{Reading, InHead, InLine, Ended, Stopped, stopped_by, take_bytes, line_ends, last_line, finished, outcome}
use Rattle.script_model.proofs.Counting.{ended_on, stopped_on}
use Rattle.fault_script.specs.declared.script_fault.ScriptFault.{ScriptFault}
use Rattle.fault_script.specs.Refusals.{refusal_of, Stops, Misses}

stays : (r : Reading) (refusal : Refusal) (bytes : List ℕ) → stopped_by r ≡ Some refusal → stopped_by (take_bytes r bytes) ≡ Some refusal
stays (InHead form places head line number) refusal bytes stops = absurd cc
stays (InLine p number used line) refusal bytes stops = absurd cc
stays (Ended script used) refusal bytes stops = absurd cc
stays (Stopped first used) refusal bytes stops = ap stopped_by (stopped_on first used bytes) ∙ stops

if_stays : (named : Option Refusal) (r : Reading) (bytes : List ℕ) → IfSome named (λ refusal. stopped_by r ≡ Some refusal)
    → IfSome named (λ refusal. stopped_by (take_bytes r bytes) ≡ Some refusal)
if_stays None r bytes stops = tt
if_stays (Some refusal) r bytes stops = stays r refusal bytes stops

pub still_on : (f : ScriptFault) (r : Reading) (bytes : List ℕ) → Stops f r → Stops f (take_bytes r bytes)
still_on f r bytes stops = if_stays (refusal_of f) r bytes stops

comes : (r : Reading) (refusal : Refusal) → stopped_by r ≡ Some refusal → outcome (finished r) ≡ Err refusal
comes (InHead form places head line number) refusal stops = absurd cc
comes (InLine p number used line) refusal stops = absurd cc
comes (Ended script used) refusal stops = absurd cc
comes (Stopped first used) refusal stops = let same : first ≡ refusal = cc in ap (λ (x : Refusal). outcome (finished (Stopped x used))) same

if_comes : (named : Option Refusal) (r : Reading) → IfSome named (λ refusal. stopped_by r ≡ Some refusal)
    → IfSome named (λ refusal. outcome (finished r) ≡ Err refusal)
if_comes None r stops = tt
if_comes (Some refusal) r stops = comes r refusal stops

-- and it is the answer at the end
pub missed : (f : ScriptFault) (r : Reading) → Stops f r → Misses f (finished r)
missed f r stops = if_comes (refusal_of f) r stops

pub over_on : (r : Reading) (used : ℕ) (bytes : List ℕ) (script : ScriptData) → r ≡ Ended script used
    → take_bytes r bytes ≡ Ended script used
over_on r used bytes script e = ap (λ (x : Reading). take_bytes x bytes) e ∙ ended_on script used bytes

-- a refusal at the line feed of a line is the answer where the text ends without it
line_comes : (named : Option Refusal) (p : Place) (j : Judged) (number used : ℕ)
    → IfSome named (λ refusal. stopped_by (line_ends p j number used) ≡ Some refusal)
    → IfSome named (λ refusal. outcome (last_line p j number used) ≡ Err refusal)
line_comes None p j number used stops = tt
line_comes (Some refusal) p (More p') number used stops = absurd cc
line_comes (Some refusal) p Done number used stops = absurd cc
line_comes (Some refusal) p (Refused reason) number used stops = let same : Line number reason ≡ refusal = cc in ap Err same

pub line_missed : (f : ScriptFault) (p : Place) (j : Judged) (number used : ℕ) → Stops f (line_ends p j number used)
    → Misses f (last_line p j number used)
line_missed f p j number used stops = line_comes (refusal_of f) p j number used stops
