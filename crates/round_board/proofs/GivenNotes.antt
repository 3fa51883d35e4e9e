-- A pass or a receipt is given and taken in, and the seats are made, under the rule.
use Rattle.std.proofs.Common.{◌≡◌, ◌≢◌, ◌⊎◌, inl, inr, ⊎_elim, ℕ, zero, suc, ◌<◌, ◌≤◌, true, false, List, [], ◌∷◌, ◌++◌, length, set, sym, refl, ap, ◌∙◌, subst, arith}
use mathlib.Core.Option.{Option, some, some-ne-none, some-injective}
use lib.ListN.{get_elem?}
use Rattle.atomic_table.specs.Table.{Splits, Joins, opening}
use Rattle.atomic_table.proofs.Lists.{set_again, set_else}
use Rattle.lift_base.specs.declared.Side.{Side}
use Rattle.lift_base.specs.declared.Side.TheVariants.{A, B}
use Rattle.round_board.specs.declared.view.Track.{Track}
use Rattle.round_board.specs.declared.view.Known.{Known}
use Rattle.round_board.specs.declared.view.Lead.{Lead}
use Rattle.round_board.specs.declared.view.View.{View}
use Rattle.round_board.specs.declared.view.View.TheVariants.{Leads, Acts, Passed, Ended, Spent}
use Rattle.round_board.specs.Rule.{blank, known, Round, words_of, SideOk, Knows, Sound, Ruled}
use Rattle.round_board.specs.Moves.{unknown, blank_lead, starting, with_known, make, take_in, made, seat_of, pass_note, receipt_note, with_pass, with_receipt}
use Rattle.round_board.proofs.Rounds.{no, off, put, seats_stay}
use Rattle.round_board.proofs.LeadSteps.{with_lead, others_lead}

-- one more view, at the end
at_end : {X : Type 0} (l : List X) (a b : X) (j : ℕ) → get_elem? (l ++ a ∷ []) j ≡ some b
    → ((j < length l) × (get_elem? l j ≡ some b)) ⊎ ((j ≡ length l) × (a ≡ b))
at_end [] a b zero e = inr (refl, some-injective a b e)
at_end [] a b (suc j) e = absurd (some-ne-none b (sym e))
at_end (x ∷ xs) a b zero e = inl (omega arith, e)
at_end (x ∷ xs) a b (suc j) e =
    ⊎_elim (λ (t : (j < length xs) × (get_elem? xs j ≡ some b)). let k : j < length xs = t.0 in inl (omega arith, t.1))
    (λ (t : (j ≡ length xs) × (a ≡ b)). inr (ap suc t.0, t.1)) (at_end xs a b j e)

-- the view stays, and a note says a part of it
noting : (id : ℕ) (v w : View) → ((x : Round) → Sound x → Knows x id v → (j : ℕ) → Knows x j w) → Splits Ruled id v v w
noting id v w says s r at =
    let vs : List View = set s.views id v in
    let old : (j : ℕ) (d : View) → get_elem? vs j ≡ some d → Knows r.round j d =
    λ j d e. r.views j d (subst (λ (zs : List View). get_elem? zs j ≡ some d) (set_again s.views id v at) e) in record {
      round = r.round;
      words = r.words;
      sound = r.sound;
      views = λ j d e. ⊎_elim (λ (t : (j < length vs) × (get_elem? vs j ≡ some d)). old j d t.1)
          (λ (t : (j ≡ length vs) × (w ≡ d)). subst (Knows r.round j) t.1 (says r.round r.sound (r.views id v at) j)) (at_end vs w d j e);
    }

pub passes_split : (id : ℕ) (h : Side) (v : View) (l : Lead) → v ≡ Leads l → Splits Ruled id v v (pass_note h v)
passes_split id h v l is = noting id v (pass_note h v) (λ x a k j. subst (λ (z : View). Knows x j (pass_note h z)) (sym is) (at_most x k))
  where
    at_most : (x : Round) → Knows x id v → l.tick ≤ x.lead.tick
    at_most x k =
        let q : Knows x id (Leads l) = subst (Knows x id) is k in
        let e : l.tick ≡ x.lead.tick = ap (λ (z : Lead). z.tick) q.1 in omega arith

pub receipts_split : (id : ℕ) (v : View) (h : Side) (p : ℕ) (t : Track) → v ≡ Acts h p t → t.tally.ended ≡ t.tally.tick
    → Splits Ruled id v v (receipt_note v)
receipts_split id v h p t is done =
    noting id v (receipt_note v) (λ x a k j. subst (λ (z : View). Knows x j (receipt_note z)) (sym is) (told x j k))
  where
    told : (x : Round) (j : ℕ) → Knows x id v → Knows x j (Ended h t)
    told x j k =
        let q : Knows x id (Acts h p t) = subst (Knows x id) is k in
        let e : t.tally.tick ≡ (x.track h).tally.tick = ap (λ (z : Track). z.tally.tick) q.1 in (done, omega arith, λ _. q.1)

-- a note is taken in, and spent
abbrev Takes : (id j : ℕ) (v w both : View) (lead : Round → Lead) → Type 0
Takes id j v w both lead = (x : Round) → Sound x → Knows x id v → Knows x j w → let y : Round = with_lead x (lead x) in
    Knows y id both × Sound y × (words_of x ≡ words_of y) × ((i : ℕ) (d : View) → i ≢ id → Knows x i d → Knows y i d)

joining : (id j : ℕ) (v w both : View) (lead : Round → Lead) → Takes id j v w both lead → Joins Ruled id v j w both Spent
joining id j v w both lead says s r at ne at' =
    let x : Round = r.round in
    let note : get_elem? s.views j ≡ some w = subst (λ (z : Option View). z ≡ some w) (set_else s.views id j both ne) at' in
    let y : Round = with_lead x (lead x) in
    let q = says x r.sound (r.views id v at) (r.views j w note) in record {
      round = y;
      words = r.words ∙ q.2;
      sound = q.1;
      views = seats_stay (Knows y) (Knows y) (set s.views id both) j Spent tt (λ i d _ k. k)
          (seats_stay (Knows x) (Knows y) s.views id both q.0 (λ i d n k. q.3 i d n k) r.views);
    }

pub passes_join : (id : ℕ) (v : View) (j : ℕ) (w : View) (h g : Side) (p q : ℕ) (t : Track) → v ≡ Acts h p t → w ≡ Passed g q
    → Joins Ruled id v j w (with_pass v w) Spent
passes_join id v j w h g p q t is is' = subst (λ (z : View × View). Joins Ruled id z.0 j z.1 (with_pass z.0 z.1) Spent)
    (λ i. (sym is i, sym is' i))
    (joining id j (Acts h p t) (Passed g q) (Acts h q t) (λ x. x.lead) (λ x a k k'. ((k.0, k.1, k', k.3), a, refl, λ i d _ o. o)))

made_with : (t : Track) (g h : Side) (l : Lead) → (known l g).made ≡ true → (known (with_known (take_in t) h l) g).made ≡ true
made_with t A A l e = e
made_with t A B l e = e
made_with t B A l e = e
made_with t B B l e = e

tick_with : (f : Known → Known) (h : Side) (l : Lead) → (with_known f h l).tick ≡ l.tick
tick_with f A l = refl
tick_with f B l = refl

words_with : (f : Known → Known) (h : Side) (x : Round) → words_of x ≡ words_of (with_lead x (with_known f h x.lead))
words_with f A x = refl
words_with f B x = refl

-- what the conductor knows of one side changes
known_sound : (x : Round) (f : Known → Known) (h : Side) → Sound x → SideOk x.lead.tick (f (known x.lead h)) (x.track h)
    → Sound (with_lead x (with_known f h x.lead))
known_sound x f A a o = record { sides = elim [ A ↦ o | B ↦ a.sides B ]; looks = a.looks }
known_sound x f B a o = record { sides = elim [ A ↦ a.sides A | B ↦ o ]; looks = a.looks }

-- a receipt of the tick tells the side as it stands
taken_side : (n : ℕ) (k : Known) (v t : Track) → SideOk n k v → t.tally.tick ≡ n
    → (t.tally.ended ≡ t.tally.tick) × (t.tally.tick ≤ v.tally.tick) × (t.tally.tick ≡ v.tally.tick → t ≡ v) → SideOk n (take_in t k) v
taken_side n k v t o e q =
    let by : v.tally.tick ≤ n = o.begun_by in
    let le : t.tally.tick ≤ v.tally.tick = q.1 in
    let done : t.tally.ended ≡ t.tally.tick = q.0 in
    let same : t ≡ v = q.2 (omega arith) in
    let d : v.tally.ended ≡ t.tally.ended = ap (λ (z : Track). z.tally.ended) (sym same) in record {
      done_by = o.done_by;
      begun_by = o.begun_by;
      near = o.near;
      told = λ _. (sym same, omega arith);
      rested = o.rested;
      kept = o.kept;
      unmade = o.unmade;
      unbegun = o.unbegun;
      led = o.led;
    }

pub receipts_join : (id : ℕ) (v : View) (j : ℕ) (w : View) (l : Lead) (h : Side) (t : Track) → v ≡ Leads l → w ≡ Ended h t
    → t.tally.tick ≡ l.tick → Joins Ruled id v j w (with_receipt v w) Spent
receipts_join id v j w l h t is is' tick = subst (λ (z : View × View). Joins Ruled id z.0 j z.1 (with_receipt z.0 z.1) Spent)
    (λ i. (sym is i, sym is' i))
    (joining id j (Leads l) (Ended h t) (Leads (with_known (take_in t) h l)) (λ x. with_known (take_in t) h x.lead) says)
  where
    says : Takes id j (Leads l) (Ended h t) (Leads (with_known (take_in t) h l)) (λ x. with_known (take_in t) h x.lead)
    says x a k q =
        let e : l.tick ≡ x.lead.tick = ap (λ (z : Lead). z.tick) k.1 in
        let to : Lead = with_known (take_in t) h x.lead in
        let up : x.lead.tick ≤ to.tick = let z = tick_with (take_in t) h x.lead in omega arith in (
          (k.0, ap (λ (z : Lead). with_known (take_in t) h z) k.1),
          known_sound x (take_in t) h a (taken_side x.lead.tick (known x.lead h) (x.track h) t (a.sides h) (tick ∙ e) q),
          words_with (take_in t) h x,
          λ i d n u. others_lead x to id i d k.0 n up (λ g m. made_with t g h x.lead m) u,
        )

abbrev with_seat : Round → Side → ℕ → Round
with_seat x h n = record { lead = with_known make h x.lead; track = x.track; seat = put x.seat h n }

-- the new seat's side was not made before, so no view was its
others_made : (x : Round) (h : Side) (n id j : ℕ) (d : View) → (known x.lead h).made ≡ false → id ≡ 0 → j ≢ id
    → Knows x j d → Knows (with_seat x h n) j d
others_made x h n id j (Leads k) new own ne q = absurd (ne (q.0 ∙ sym own))
others_made x A n id j (Acts A p t) new own ne q = no (sym q.3 ∙ new)
others_made x A n id j (Acts B p t) new own ne q = q
others_made x B n id j (Acts A p t) new own ne q = q
others_made x B n id j (Acts B p t) new own ne q = no (sym q.3 ∙ new)
others_made x A n id j (Passed g p) new own ne q = q
others_made x B n id j (Passed g p) new own ne q = q
others_made x h n id j (Ended g t) new own ne q = q
others_made x h n id j Spent new own ne q = tt

seated : (x : Round) (h : Side) (n : ℕ) → x.track h ≡ blank → Knows (with_seat x h n) n (seat_of h)
seated x A n e = (refl, sym e, omega arith, refl)
seated x B n e = (refl, sym e, omega arith, refl)

words_seat : (x : Round) (h : Side) (n : ℕ) → words_of x ≡ words_of (with_seat x h n)
words_seat x A n = refl
words_seat x B n = refl

seat_sound : (x : Round) (h : Side) (n : ℕ) → Sound (with_lead x (with_known make h x.lead)) → Sound (with_seat x h n)
seat_sound x h n a = record { sides = a.sides; looks = a.looks }

made_side : (n : ℕ) (k : Known) (t : Track) → SideOk n k t → SideOk n (make k) t
made_side n k t o = record {
  done_by = o.done_by;
  begun_by = o.begun_by;
  near = o.near;
  told = o.told;
  rested = o.rested;
  kept = o.kept;
  unmade = λ e. no e;
  unbegun = o.unbegun;
  led = o.led;
}

-- a channel's seat is made from the conductor's
pub makes_split : (id : ℕ) (v : View) (h : Side) (l : Lead) → v ≡ Leads l → (known l h).made ≡ false
    → Splits Ruled id v (made h v) (seat_of h)
makes_split id v h l is new s r at =
    let x : Round = r.round in
    let k : Knows x id (Leads l) = subst (Knows x id) is (r.views id v at) in
    let new' : (known x.lead h).made ≡ false = ap (λ (z : Lead). (known z h).made) (sym k.1) ∙ new in
    let vs : List View = set s.views id (made h v) in
    let n : ℕ = length vs in
    let y : Round = with_seat x h n in
    let w : Leads (with_known make h x.lead) ≡ made h v = sym (ap (made h) is ∙ ap (λ (z : Lead). Leads (with_known make h z)) k.1) in
    let mine : Knows y n (seat_of h) = seated x h n ((r.sound.sides h).unmade new') in
    let old : (j : ℕ) (d : View) → get_elem? vs j ≡ some d → Knows y j d =
    seats_stay (Knows x) (Knows y) s.views id (made h v) (subst (Knows y id) w (k.0, refl))
    (λ j d ne q. others_made x h n id j d new' k.0 ne q) r.views in record {
      round = y;
      words = r.words ∙ words_seat x h n;
      sound = seat_sound x h n (known_sound x make h r.sound (made_side x.lead.tick (known x.lead h) (x.track h) (r.sound.sides h)));
      views = λ j d e. ⊎_elim (λ (t : (j < length vs) × (get_elem? vs j ≡ some d)). old j d t.1)
          (λ (t : (j ≡ length vs) × (seat_of h ≡ d)). subst (λ (z : ℕ × View). Knows y z.0 z.1) (λ i. (sym t.0 i, t.1 i)) mine)
          (at_end vs (seat_of h) d j e);
    }

abbrev first_round : Round
first_round = record { lead = blank_lead; track = λ _. blank; seat = λ _. 0 }

pub opens_ruled : Ruled (opening (0 ∷ 0 ∷ 0 ∷ 0 ∷ 0 ∷ 0 ∷ 0 ∷ 0 ∷ 0 ∷ 0 ∷ []) [] starting)
opens_ruled = record {
  round = first_round;
  words = refl;
  sound = record { sides = elim [ A ↦ fresh | B ↦ fresh ]; looks = λ h. record { saw = λ e f. off f; crossed = λ e f g. off g } };
  views = one;
}
  where
    fresh : SideOk 0 unknown blank
    fresh = record {
      done_by = omega arith;
      begun_by = omega arith;
      near = omega arith;
      told = λ _. (refl, refl);
      rested = λ _. refl;
      kept = λ _. refl;
      unmade = λ _. refl;
      unbegun = λ _. refl;
      led = λ e. off e;
    }

    one : (j : ℕ) (d : View) → get_elem? (starting ∷ []) j ≡ some d → Knows first_round j d
    one zero d e = subst (Knows first_round 0) (some-injective _ _ e) (refl, refl)
    one (suc j) d e = absurd (some-ne-none d (sym e))
