-- What was read of a text is known of the whole.
use Rattle.std.proofs.Common.{◌≡◌, ◌⊎◌, ◌∙◌, ◌++◌, inl, inr, List, ℕ, [], ◌∷◌, Bool, refl, sym, ap, subst, IfSome, Option, Some, None, Result, Ok, Err}
use Rattle.std.proofs.lemmas.List.{append-nil}
use Rattle.std.specs.Io.KnownBytes.{Consumes, IsAtEnd, Keeps}
use Rattle.lift_base.specs.declared.forms.Form.{Form}
use Rattle.script_model.proofs.Bytes.{take_bytes-append}
use Rattle.script_model.specs.Judging.{ScriptData}
use Rattle.script_model.specs.declared.refusals.Refusal.{Refusal}
use Rattle.script_model.specs.Meaning.{Reading, InHead, InLine, Ended, Stopped, IsOpen, stopped_by, take_bytes, reading, finished, meaning, outcome}
use Rattle.fault_script.specs.declared.reader.State.{State}
use Rattle.fault_script.specs.declared.script_fault.ScriptFault.{ScriptFault}
use Rattle.fault_script.specs.Refusals.{Stops, Misses, refusal_of as named}
use Rattle.fault_script.specs.Reads.{HasRead}
use Rattle.std.proofs.KnownBytes.{Consumes-nil, Consumes-trans, Consumes-kept}
use Rattle.lift_front.specs.Calls.{Call, IsCalm}
use Rattle.lift_front.specs.Scripts.{Text, OfBytes, HasScript, IsUndecided, NotRead}
use Rattle.lift_front.specs.Refusals.{IsFaultOf}
use Rattle.lift_front.specs.Feeding.{WasFed, GoesOn, IsFed}
use Rattle.lift_front.specs.declared.fault.Fault.{Fault}
use Rattle.lift_front.specs.declared.fault.Fault.TheVariants as fault

-- what is decided stays so
stays : (r : Reading) → (IsOpen r → ⊥) → (bytes : List ℕ) → take_bytes r bytes ≡ r
stays (InHead form places head line number) closed bytes = absurd (closed tt)
stays (InLine p number used line) closed bytes = absurd (closed tt)
stays (Ended script used) closed [] = refl
stays (Ended script used) closed (b ∷ bytes) = stays (Ended script used) closed bytes
stays (Stopped refusal used) closed [] = refl
stays (Stopped refusal used) closed (b ∷ bytes) = stays (Stopped refusal used) closed bytes

-- what stopped a reading is the refusal of the text
pub stopped_means : (r : Reading) (refusal : Refusal) → stopped_by r ≡ Some refusal → outcome (finished r) ≡ Err refusal
stopped_means (InHead form places head line number) refusal e = cc
stopped_means (InLine p number used line) refusal e = cc
stopped_means (Ended script used) refusal e = cc
stopped_means (Stopped q used) refusal e = cc

pub stopped_is_closed : (r : Reading) (refusal : Refusal) → stopped_by r ≡ Some refusal → IsOpen r → ⊥
stopped_is_closed (InHead form places head line number) refusal e x = cc
stopped_is_closed (InLine p number used line) refusal e x = cc
stopped_is_closed (Ended script used) refusal e x = x
stopped_is_closed (Stopped q used) refusal e x = x

pub ended_is_closed : (r : Reading) (script : ScriptData) (used : ℕ) → r ≡ Ended script used → IsOpen r → ⊥
ended_is_closed r script used e x = subst IsOpen e x

if_some : {A : Type 0} {P Q : A → Type 0} → ((x : A) → P x → Q x) → (o : Option A) → IfSome o P → IfSome o Q
if_some f None p = tt
if_some f (Some x) p = f x p

module _ (form : Form) (places : List Bool) where
  same_meaning : (front rest : List ℕ) → (IsOpen (reading form places front) → ⊥)
      → meaning form places (front ++ rest) ≡ meaning form places front
  same_meaning front rest closed =
      ap finished (take_bytes-append (InHead form places [] [] 1) front rest ∙ stays (reading form places front) closed rest)

  -- a text that was taken means what the bytes of the source do
  pub of_bytes : (x : Result ScriptData Refusal) (left after : Option (List ℕ)) (taken : List ℕ) → Consumes left after taken
      → (IsOpen (reading form places taken) → ⊥) ⊎ IsAtEnd after → outcome (meaning form places taken) ≡ x
      → OfBytes left (λ bytes. outcome (meaning form places bytes) ≡ x)
  of_bytes x None after taken consumed ended is = (taken, is)
  of_bytes x (Some bytes) None taken consumed ended is = absurd consumed
  of_bytes x (Some bytes) (Some rest) taken consumed (inl closed) is =
      ap (λ (b : List ℕ). outcome (meaning form places b)) consumed ∙ (ap outcome (same_meaning taken rest closed) ∙ is)
  of_bytes x (Some bytes) (Some rest) taken consumed (inr none) is =
      let all : bytes ≡ taken = consumed ∙ (ap (λ (r : List ℕ). taken ++ r) none ∙ append-nil taken) in
      ap (λ (b : List ℕ). outcome (meaning form places b)) all ∙ is

  -- ---- feeding

  abbrev pub fed_nothing : (s : State) (left : Option (List ℕ)) → HasRead s form places [] → GoesOn form places s left left
  fed_nothing s left fed = record {
    it = record { taken = []; fed = fed; consumed = Consumes-nil left };
    open_yet = tt;
  }

  -- one piece more
  abbrev pub fed_more : (s t : State) (left mid after : Option (List ℕ)) (piece : List ℕ) (w : WasFed form places s left mid)
      → Consumes mid after piece → HasRead t form places (w.taken ++ piece) → WasFed form places t left after
  fed_more s t left mid after piece w consumed fed = record {
    taken = w.taken ++ piece;
    fed = fed;
    consumed = Consumes-trans left mid after w.taken piece w.consumed consumed;
  }

  -- a read that fails takes nothing
  pub undecided : (s : State) (left mid after : Option (List ℕ)) → GoesOn form places s left mid → Keeps mid after
      → IsUndecided (Text form places) left after
  undecided s left mid after w kept = (w.it.taken, Consumes-kept left mid after w.it.taken w.it.consumed kept, w.open_yet)

  -- ---- what is answered

  -- the refusal of what was taken is that of the text
  not_read : (o : Option Refusal) (f : Fault) (source : Call) (taken : List ℕ) → IsFaultOf f o → IsCalm source
      → Consumes source.bytes_before source.bytes_after taken
      → IfSome o (λ r. (outcome (meaning form places taken) ≡ Err r)
      × ((IsOpen (reading form places taken) → ⊥) ⊎ IsAtEnd source.bytes_after))
      → NotRead (Text form places) f source
  not_read None fault.Memory source taken is calm consumed why = calm
  not_read (Some r) (fault.Text f) source taken is calm consumed (means, ended) =
      (calm, of_bytes (Err f) source.bytes_before source.bytes_after taken consumed ended (means ∙ ap Err (sym is)))
  not_read None (fault.Text f) source taken is calm consumed why = absurd is
  not_read (Some r) fault.Memory source taken is calm consumed why = absurd is
  not_read o fault.Words source taken is calm consumed why = absurd is
  not_read o fault.Read source taken is calm consumed why = absurd is
  not_read o (fault.Step n) source taken is calm consumed why = absurd is
  not_read o fault.Disk source taken is calm consumed why = absurd is
  not_read o (fault.Record n) source taken is calm consumed why = absurd is
  not_read o fault.Full source taken is calm consumed why = absurd is
  not_read o fault.Cycle source taken is calm consumed why = absurd is

  -- a piece was refused
  pub refused : (s : State) (e : ScriptFault) (f : Fault) (source : Call)
      (w : WasFed form places s source.bytes_before source.bytes_after)
      → IsFaultOf f (named e) → IsCalm source → Stops e (reading form places w.taken) → NotRead (Text form places) f source
  refused s e f source w is calm stops =
      let read = reading form places w.taken in
      not_read (named e) f source w.taken is calm w.consumed
      (if_some (λ r by. (stopped_means read r by, inl (stopped_is_closed read r by))) (named e) stops)

  -- the whole of it was
  pub refused_whole : (s : State) (e : ScriptFault) (f : Fault) (source : Call)
      (w : IsFed form places s source.bytes_before source.bytes_after)
      → IsFaultOf f (named e) → IsCalm source → Misses e (meaning form places w.it.taken) → NotRead (Text form places) f source
  refused_whole s e f source w is calm misses = not_read (named e) f source w.it.taken is calm w.it.consumed
      (if_some (λ r means. (means, w.ended)) (named e) misses)

  pub has_script : (s : State) (script : ScriptData) (left after : Option (List ℕ)) (w : IsFed form places s left after)
      → outcome (meaning form places w.it.taken) ≡ Ok script → HasScript (Text form places) left script
  has_script s script left after w means = of_bytes (Ok script) left after w.it.taken w.it.consumed w.ended means
