-- What the calls of the seats owe, in the words of their contracts.
use Rattle.std.proofs.Common.{◌≡◌, ◌⊎◌, inl, inr, ℕ, ◌+◌, ◌<◌, ◌==◌, Bool, true, false, true≢false, not, Option, Some, None, is_some, [], sym, refl, ap, ◌∙◌, subst}
use Rattle.std.proofs.lemmas.Bool.{eqb-true, eqb-false}
use mathlib.Core.Option.{none}
use Rattle.atomic_table.specs.Table.{step, Allows, Splits, Joins}
use Rattle.lift_base.specs.declared.Side.{Side}
use Rattle.round_board.specs.declared.tally.Tally.{Tally}
use Rattle.round_board.specs.declared.view.Track.{Track}
use Rattle.round_board.specs.declared.view.Lead.{Lead}
use Rattle.round_board.specs.declared.view.View.{View}
use Rattle.round_board.specs.declared.view.View.TheVariants.{Leads, Acts, Passed, Ended, Spent}
use Rattle.round_board.specs.Tallies.{other}
use Rattle.round_board.specs.Rule.{known, stands, Looks, Ruled}
use Rattle.round_board.specs.Moves.{track_of, pass_of, lead_of, begins, publishes, sees, notes, commands, ends, raises, made, seat_of, pass_note, receipt_note, with_pass, with_receipt, Closed, reads, publish_at, seen_at, command_at, done_at}
use Rattle.round_board.specs.Inside.{loaded_word, Noted}
use Rattle.round_board.proofs.Rounds.{M}
use Rattle.round_board.proofs.SideSteps.{begins_moves, ends_moves, publishes_moves, sees_moves, notes_moves, commands_moves}
use Rattle.round_board.proofs.LeadSteps.{raises_moves, reads_moves}
use Rattle.round_board.proofs.GivenNotes.{passes_split, receipts_split, passes_join, receipts_join, makes_split}

abbrev IsActor : Side → M → Type 0
IsActor h me = me ≡ (Acts h (pass_of me.0) (track_of me.0), [])

abbrev IsPass : Side → M → Type 0
IsPass h me = me ≡ (Passed h (pass_of me.0), [])

abbrev IsReceipt : Side → M → Type 0
IsReceipt h me = me ≡ (Ended h (track_of me.0), [])

abbrev IsLeader : M → Type 0
IsLeader me = me ≡ (Leads (lead_of me.0), [])

abbrev HasBegun : M → Type 0
HasBegun me = (track_of me.0).tally.ended < (track_of me.0).tally.tick

view_is : {me : M} {v : View} → me ≡ (v, []) → me.0 ≡ v
view_is is = ap (λ (m : M). m.0) is

pub begin_call : (slots id : ℕ) (h : Side) (me : M) → IsActor h me → pass_of me.0 ≡ (track_of me.0).tally.tick + 1
    → Allows Ruled slots id me 1 (λ n. n) (begins (step slots 1 0 0 none) me)
begin_call slots id h me is next = begins_moves slots id me h (pass_of me.0) (track_of me.0) (view_is is) next

pub publish_call : (slots id : ℕ) (h : Side) (me : M) (i n : ℕ) → i ≡ publish_at h → IsActor h me → HasBegun me
    → (track_of me.0).tally.publish ≡ None → Allows Ruled slots id me i (λ _. n) (λ _. publishes (step slots i n 0 none) me n)
publish_call slots id h me i n at is begun once =
    subst (λ (j : ℕ). Allows Ruled slots id me j (λ _. n) (λ _. publishes (step slots j n 0 none) me n)) (sym at)
    (publishes_moves slots id me h (pass_of me.0) n (track_of me.0) (view_is is) begun (ap (λ (o : Option ℕ). is_some o) once))

pub see_call : (slots id : ℕ) (h : Side) (me : M) (i : ℕ) → i ≡ publish_at (other h) → IsActor h me → HasBegun me
    → Allows Ruled slots id me i (λ n. n) (sees (step slots i 0 0 none) me)
see_call slots id h me i at is begun = subst (λ (j : ℕ). Allows Ruled slots id me j (λ n. n) (sees (step slots j 0 0 none) me)) (sym at)
    (sees_moves slots id me h (pass_of me.0) (track_of me.0) (view_is is) begun)

pub note_call : (slots id : ℕ) (h : Side) (me : M) (i n : ℕ) → i ≡ seen_at h → IsActor h me → HasBegun me
    → Allows Ruled slots id me i (λ _. n) (λ _. notes (step slots i n 0 none) me n)
note_call slots id h me i n at is begun =
    subst (λ (j : ℕ). Allows Ruled slots id me j (λ _. n) (λ _. notes (step slots j n 0 none) me n)) (sym at)
    (notes_moves slots id me h (pass_of me.0) n (track_of me.0) (view_is is) begun)

pub command_call : (slots id : ℕ) (h : Side) (me : M) (i n : ℕ) → i ≡ command_at h → IsActor h me → HasBegun me
    → Allows Ruled slots id me i (λ _. n) (λ _. commands (step slots i n 0 none) me n)
command_call slots id h me i n at is begun =
    subst (λ (j : ℕ). Allows Ruled slots id me j (λ _. n) (λ _. commands (step slots j n 0 none) me n)) (sym at)
    (commands_moves slots id me h (pass_of me.0) n (track_of me.0) (view_is is) begun)

pub end_call : (slots id : ℕ) (h : Side) (me : M) (i n : ℕ) → i ≡ done_at h → IsActor h me → HasBegun me → n ≡ (track_of me.0).tally.tick
    → Allows Ruled slots id me i (λ _. n) (λ _. ends (step slots i n 0 none) me n)
end_call slots id h me i n at is begun value =
    subst (λ (j : ℕ). Allows Ruled slots id me j (λ _. n) (λ _. ends (step slots j n 0 none) me n)) (sym at)
    (ends_moves slots id me h (pass_of me.0) n (track_of me.0) (view_is is) begun value)

pub receipt_call : (id : ℕ) (h : Side) (me : M) → IsActor h me → (track_of me.0).tally.ended ≡ (track_of me.0).tally.tick
    → Splits Ruled id me.0 me.0 (receipt_note me.0)
receipt_call id h me is done = receipts_split id me.0 h (pass_of me.0) (track_of me.0) (view_is is) done

pub take_pass_call : (id j : ℕ) (h g : Side) (me he : M) → IsActor h me → IsPass g he
    → Joins Ruled id me.0 j he.0 (with_pass me.0 he.0) Spent
take_pass_call id j h g me he is is' =
    passes_join id me.0 j he.0 h g (pass_of me.0) (pass_of he.0) (track_of me.0) (view_is is) (view_is is')

pub take_receipt_call : (id j : ℕ) (h : Side) (me he : M) → IsLeader me → IsReceipt h he → (track_of he.0).tally.tick ≡ (lead_of me.0).tick
    → Joins Ruled id me.0 j he.0 (with_receipt me.0 he.0) Spent
take_receipt_call id j h me he is is' tick = receipts_join id me.0 j he.0 (lead_of me.0) h (track_of he.0) (view_is is) (view_is is') tick

pub raise_call : (slots id : ℕ) (me : M) (n : ℕ) → IsLeader me → (lead_of me.0).a.told ≡ true → (lead_of me.0).b.told ≡ true
    → n ≡ (lead_of me.0).tick + 1 → Allows Ruled slots id me 1 (λ _. n) (λ _. raises (step slots 1 n 0 none) me n)
raise_call slots id me n is ta tb value = raises_moves slots id me (lead_of me.0) n (view_is is) ta tb value

pub read_call : (slots id : ℕ) (me : M) (i : ℕ) → IsLeader me → (lead_of me.0).a.told ≡ true → (lead_of me.0).b.told ≡ true
    → Allows Ruled slots id me i (λ n. n) (reads (step slots i 0 0 none) me)
read_call slots id me i is ta tb = reads_moves slots id me (lead_of me.0) i (view_is is) ta tb

pub pass_call : (id : ℕ) (h : Side) (me : M) → IsLeader me → Splits Ruled id me.0 me.0 (pass_note h me.0)
pass_call id h me is = passes_split id h me.0 (lead_of me.0) (view_is is)

pub make_call : (id : ℕ) (h : Side) (me : M) → IsLeader me → (known (lead_of me.0) h).made ≡ false
    → Splits Ruled id me.0 (made h me.0) (seat_of h)
make_call id h me is new = makes_split id me.0 h (lead_of me.0) (view_is is) new

-- the test of a round that is closed
pub told_of : (b : Bool) → not b ≡ false → b ≡ true
told_of true e = refl
told_of false e = sym e

-- what was loaded, where something was
noted_word : (b : Bool) (n : ℕ) → b ≡ true → loaded_word b n ≡ Some n
noted_word true n e = refl
noted_word false n e = absurd (true≢false (sym e))

-- of two sides that published before they looked, one saw the other's publish word, x or y
abbrev pub OneSeen : Tally → Tally → ℕ → ℕ → Type 0
OneSeen a b x y = a.published_first ≡ true → b.published_first ≡ true → (a.seen ≡ Some x) ⊎ (b.seen ≡ Some y)

one_saw : (n : ℕ) (t u : Track) → (t.tally.tick ≡ n) × (u.tally.tick ≡ n) → Noted t × Noted u
    → (t.looked ≡ true) × (u.looked ≡ true) → Looks n t u → OneSeen t.tally u.tally (stands u) (stands t)
one_saw n t u tick noted look l first first' = by_test (t.loaded == stands u) refl
  where
    by_test : (b : Bool) → (t.loaded == stands u) ≡ b → (t.tally.seen ≡ Some (stands u)) ⊎ (u.tally.seen ≡ Some (stands t))
    by_test true e = inl (noted.0 ∙ (noted_word t.looked t.loaded look.0 ∙ ap (λ (z : ℕ). Some z) (eqb-true t.loaded (stands u) e)))
    by_test false e =
        let saw : u.loaded ≡ stands t = l.crossed tick.0 tick.1 first first' (λ q. eqb-false t.loaded (stands u) e q) in
        inr (noted.1 ∙ (noted_word u.looked u.loaded look.1 ∙ ap (λ (z : ℕ). Some z) saw))

-- the side has looked where it published first
abbrev FirstLooked : Track → Type 0
FirstLooked t = t.tally.published_first ≡ true → t.looked ≡ true

pub closed_one_saw : (l : Lead) (t u : Track) → Closed l → l.a.now ≡ t → l.b.now ≡ u → Noted t × Noted u
    → OneSeen t.tally u.tally (stands u) (stands t)
closed_one_saw l t u k ta tb noted fa fb =
    let tick : (t.tally.tick ≡ l.tick) × (u.tally.tick ≡ l.tick) =
    (subst (λ (z : Track). z.tally.tick ≡ l.tick) ta k.tick_a, subst (λ (z : Track). z.tally.tick ≡ l.tick) tb k.tick_b) in
    let look : (t.looked ≡ true) × (u.looked ≡ true) = (subst FirstLooked ta k.led_a fa, subst FirstLooked tb k.led_b fb) in
    one_saw l.tick t u tick noted look (subst (λ (z : Track × Track). Looks l.tick z.0 z.1) (λ i. (ta i, tb i)) k.looks_a) fa fb
