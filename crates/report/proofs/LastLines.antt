-- The last changes, tick by tick as they are noted, and line by line as they are written.
use Rattle.std.proofs.Common.{◌≡◌, ◌<◌, ◌≤◌, ◌+◌, ◌++◌, List, [], ◌∷◌, ℕ, length, drop, slice_get, Some, refl, sym, ap, ◌∙◌, subst, append_assoc, if◌then◌else◌, Bool, false}
use Rattle.std.specs.List.{flat_map}
use Rattle.std.specs.declared.option.Option.{Option}
use Rattle.std.specs.declared.result.Result.{Result}
use Rattle.std.specs.Io.KnownBytes.{Appends}
use Rattle.std.proofs.lemmas.List.{append-nil, at_drop_more, at_drop_all}
use Rattle.std.proofs.lemmas.Option.{get_or_from_slice_get}
use Rattle.lift_base.specs.declared.Kind.{Kind}
use Rattle.lift_base.specs.declared.Kind.TheVariants.{Off}
use Rattle.lift_io.specs.Puts.{AppendsUpTo, AppendsFront, PutsText}
use Rattle.lift_io.proofs.Writing.{piece_at, front_at, last_piece}
use Rattle.core_model.specs.Settling.{Settled, no_settled}
use Rattle.event_record.specs.Record.{RecordData, Keeps}
use Rattle.script_model.specs.Changes.{ChangeData}
use Rattle.script_model.specs.Last.{last_text}
use Rattle.script_model.specs.Report.{change_at, is_change, changes_from, changes_of, change_text, changes_text}
use Rattle.report.proofs.TickLines.{after}

-- ---- noting

abbrev if_one : Bool → ChangeData → List ChangeData
if_one is c = if is then c ∷ [] else []

-- some changes were noted, and with those that are left they are all
pub record Noted (old new : RecordData) (path : List Settled) (before : ℕ) (power : Kind) (alarm : Bool) : Type 0 where
  pub taken : List ChangeData
  pub keeps : (noted : List ChangeData) → Keeps noted old → Keeps (noted ++ taken) new
  pub all : taken ++ changes_from power alarm (before + 1) (drop before path) ≡ changes_of path
  pub size : new.size ≡ old.size

-- a tick is a change where it differs from the one before, and then the others come
tick_first : (path : List Settled) (before : ℕ) (power : Kind) (alarm is : Bool) (c : ChangeData)
    → before < length path → change_at (before + 1) (after path before) ≡ c → is ≡ is_change power alarm c.power c.alarm
    → changes_from power alarm (before + 1) (drop before path)
    ≡ if_one is c ++ changes_from c.power c.alarm (before + 1 + 1) (drop (before + 1) path)
tick_first path before power alarm is c lt same named =
    let left = changes_from power alarm (before + 1) (drop before path) in
    let First : Bool → ChangeData → Type 0 = λ b d.
    left ≡ if_one b d ++ changes_from d.power d.alarm (before + 1 + 1) (drop (before + 1) path) in
    subst (λ (b : Bool). First b c) (sym named) (subst (λ (d : ChangeData). First (is_change power alarm d.power d.alarm) d) same
    (at_drop_more (changes_from power alarm (before + 1)) path before no_settled lt))

module _ (old : RecordData) (path : List Settled) where
  pub none_noted : Noted old old path 0 Off false
  none_noted = record { taken = []; keeps = λ noted k. subst (λ l. Keeps l old) (sym (append-nil noted)) k; all = refl; size = refl }

  module _ (before : ℕ) (power : Kind) (alarm : Bool) where
    pub one_noted : (mid new : RecordData) (is : Bool) (c : ChangeData)
        → before < length path → change_at (before + 1) (after path before) ≡ c → is ≡ is_change power alarm c.power c.alarm
        → Noted old mid path before power alarm
        → ((noted : List ChangeData) → Keeps noted mid → Keeps (noted ++ if_one is c) new) → new.size ≡ mid.size
        → Noted old new path (before + 1) c.power c.alarm
    one_noted mid new is c lt same named so keeps size = record {
      taken = so.taken ++ if_one is c;
      keeps = λ noted k.
          subst (λ l. Keeps l new) (append_assoc noted so.taken (if_one is c)) (keeps (noted ++ so.taken) (so.keeps noted k));
      all = append_assoc so.taken (if_one is c) (changes_from c.power c.alarm (before + 1 + 1) (drop (before + 1) path))
          ∙ ap (λ l. so.taken ++ l) (sym (tick_first path before power alarm is c lt same named)) ∙ so.all;
      size = size ∙ so.size;
    }

    pub all_noted : (new : RecordData) → length path ≤ before → Noted old new path before power alarm
        → (noted : List ChangeData) → Keeps noted old → Keeps (noted ++ changes_of path) new
    all_noted new past so noted k =
        let rest = at_drop_all (changes_from power alarm (before + 1)) path before past in
        let whole : so.taken ≡ changes_of path = sym (append-nil so.taken) ∙ ap (λ l. so.taken ++ l) (sym rest) ∙ so.all in
        subst (λ l. Keeps (noted ++ l) new) whole (so.keeps noted k)

-- ---- writing

abbrev pub lines_left : List ChangeData → ℕ → List ℕ
lines_left changes i = flat_map change_text (drop i changes)

line_first : (changes : List ChangeData) (i : ℕ) (c : ChangeData) → i < length changes → slice_get changes i ≡ Some c
    → lines_left changes i ≡ change_text c ++ lines_left changes (i + 1)
line_first changes i c lt is =
    at_drop_more (flat_map change_text) changes i c lt
    ∙ ap (λ d. change_text d ++ lines_left changes (i + 1)) (get_or_from_slice_get changes i c c is)

module _ {old mid : Option (List ℕ)} (new : Option (List ℕ)) {text : List ℕ} (last : List ℕ) (changes : List ChangeData) (i : ℕ) where
  at_line : (c : ChangeData) → i < length changes → slice_get changes i ≡ Some c
      → AppendsUpTo old mid text (lines_left changes i ++ last)
      → AppendsUpTo old mid text (change_text c ++ (lines_left changes (i + 1) ++ last))
  at_line c lt is so_far = subst (AppendsUpTo old mid text)
      (ap (λ lines. lines ++ last) (line_first changes i c lt is) ∙ append_assoc (change_text c) (lines_left changes (i + 1)) last) so_far

  -- the line of a change was written
  pub line-written : (c : ChangeData) → i < length changes → slice_get changes i ≡ Some c
      → AppendsUpTo old mid text (lines_left changes i ++ last) → Appends mid new (change_text c)
      → AppendsUpTo old new text (lines_left changes (i + 1) ++ last)
  line-written c lt is so_far wrote = piece_at new _ _ (at_line c lt is so_far) wrote

  -- a front of it was written
  pub line-cut : (c : ChangeData) → i < length changes → slice_get changes i ≡ Some c
      → AppendsUpTo old mid text (lines_left changes i ++ last) → AppendsFront mid new (change_text c) → AppendsFront old new text
  line-cut c lt is so_far wrote = front_at new _ _ (at_line c lt is so_far) wrote

  -- all lines were written, and then the last one
  pub whole_last : {T E : Type 0} (r : Result T E) → length changes ≤ i
      → AppendsUpTo old mid text (lines_left changes i ++ last) → PutsText mid new r last → PutsText old new r text
  whole_last r past so_far wrote =
      let none = at_drop_all (flat_map change_text) changes i past in
      last_piece new r (subst (λ lines. AppendsUpTo old mid text (lines ++ last)) none so_far) wrote

-- the text of a record that was filled from a path
pub is_last_text : (path : List Settled) (r : RecordData) → Keeps (changes_of path) r → changes_text r.changes path ≡ last_text r.size path
unfolding last_text
is_last_text path r keeps = ap (λ changes. changes_text changes path) keeps
