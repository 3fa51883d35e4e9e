-- Where more bytes lead the parts of a reader.
use Rattle.std.specs.Prelude.{ℕ, ◌≡◌, ◌≤◌, ◌+◌, List, length, take, Option, None, Some, Result, Ok, Err}
use Rattle.script_model.specs.Meaning.{Reading, Ended, take_bytes}
use Rattle.fault_script.specs.declared.went.Went.{Went}
use Rattle.fault_script.specs.declared.went.Went.TheVariants.{More, Whole, Refused}
use Rattle.fault_script.specs.declared.fed.Fed.{Fed}
use Rattle.fault_script.specs.declared.fed.Fed.TheVariants as fed
use Rattle.fault_script.specs.declared.script_fault.ScriptFault.{ScriptFault}
use Rattle.fault_script.specs.Refusals.{Stops}
use Rattle.fault_script.specs.Views.{HeadData, in_head, behind_head, BodyData, in_line}

-- by one more byte the head goes on, or it is whole, or the text is refused
abbrev pub HeadWent : Went → HeadData → HeadData → Reading → Type 0
HeadWent More old new r = r ≡ in_head new
HeadWent Whole old new r = (new ≡ old) × (r ≡ behind_head old (length old.lines + length old.line + 1))
HeadWent (Refused fault) old new r = Stops fault r

-- by a piece the head goes on, or it is whole after so many bytes of it, or the text is refused
abbrev pub HeadFed : Result (Option ℕ) ScriptFault → HeadData → HeadData → List ℕ → Type 0
HeadFed (Ok None) old new piece = take_bytes (in_head old) piece ≡ in_head new
HeadFed (Ok (Some n)) old new piece =
    (n ≤ length piece) × (take_bytes (in_head old) (take n piece) ≡ behind_head new (length old.lines + length old.line + n))
HeadFed (Err fault) old new piece = Stops fault (take_bytes (in_head old) piece)

-- after the head come the lines, or the text is refused
abbrev pub Begins : Result BodyData ScriptFault → ℕ → Reading → Type 0
Begins (Ok body) used r = r ≡ in_line body used
Begins (Err fault) used r = Stops fault r

-- so many bytes were read: the lines go on, or the script is whole, or the text is refused
abbrev pub BodyWent : Went → BodyData → ℕ → Reading → Type 0
BodyWent More new used r = r ≡ in_line new used
BodyWent Whole new used r = r ≡ Ended new.place.script used
BodyWent (Refused fault) new used r = Stops fault r

-- by a piece of so many bytes the lines go on, or the script is whole after some of them, or the text is refused
abbrev pub BodyFed : Result Fed ScriptFault → BodyData → ℕ → ℕ → Reading → Type 0
BodyFed (Ok fed.More) new used n r = r ≡ in_line new (used + n)
BodyFed (Ok (fed.Ended k)) new used n r = r ≡ Ended new.place.script (used + k)
BodyFed (Err fault) new used n r = Stops fault r
