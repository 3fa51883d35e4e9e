-- A step of a side keeps the rule where what the side did goes on rightly.
use Rattle.std.proofs.Common.{◌≡◌, ◌≢◌, ⊎_elim, ℕ, ◌+◌, ◌<◌, ◌≤◌, true, false, true≢false, List, get_or, set, sym, refl, ap, ◌∙◌, subst, arith, is_some}
use mathlib.Core.Option.{some}
use lib.ListN.{get_elem?}
use Rattle.atomic_table.specs.Table.{State, Me, Act, Valid, keeps, stepped, carried_after, Allows}
use Rattle.atomic_table.proofs.Lists.{at_set}
use Rattle.lift_base.specs.declared.Side.{Side}
use Rattle.lift_base.specs.declared.Side.TheVariants.{A, B}
use Rattle.round_board.specs.declared.view.Track.{Track}
use Rattle.round_board.specs.declared.view.View.{View}
use Rattle.round_board.specs.declared.view.View.TheVariants.{Leads, Acts, Passed, Ended, Spent}
use Rattle.round_board.specs.Tallies.{other}
use Rattle.round_board.specs.Rule.{known, Round, words_of, SideOk, Looks, Knows, Sound, Ruled}
use Rattle.round_board.specs.Moves.{acts}

abbrev pub St : Type 0
St = State (Unit {0}) View

abbrev pub M : Type 0
M = Me (Unit {0}) View

pub no : {X : Type 0} → true ≡ false → X
no e = absurd (true≢false e)

pub off : {X : Type 0} → false ≡ true → X
off e = absurd (true≢false (sym e))

abbrev pub put : {X : Type 0} → (Side → X) → Side → X → Side → X
put f A x A = x
put f A x B = f B
put f B x A = f A
put f B x B = x

put_each : (P : Side → Track → Type 0) (f : Side → Track) (h : Side) (t : Track) → P h t
    → ((g : Side) → P g (f g)) → (g : Side) → P g (put f h t g)
put_each P f A t p q A = p
put_each P f A t p q B = q B
put_each P f B t p q A = q A
put_each P f B t p q B = p

put_looks : (n : ℕ) (f : Side → Track) (h : Side) (t : Track) → Looks n t (f (other h)) → Looks n (f (other h)) t
    → (g : Side) → Looks n (put f h t g) (put f h t (other g))
put_looks n f A t p q A = p
put_looks n f A t p q B = q
put_looks n f B t p q A = q
put_looks n f B t p q B = p

abbrev pub with_track : Round → Side → Track → Round
with_track x h t = record x { track = put x.track h t }

-- the views of the other seats stay, and this seat's is new
pub seats_stay : (K L : ℕ → View → Type 0) (vs : List View) (id : ℕ) (w : View) → L id w → ((j : ℕ) (d : View) → j ≢ id → K j d → L j d)
    → ((j : ℕ) (d : View) → get_elem? vs j ≡ some d → K j d) → (j : ℕ) (d : View) → get_elem? (set vs id w) j ≡ some d → L j d
seats_stay K L vs id w mine others old j d e =
    ⊎_elim (λ (t : (j ≡ id) × (w ≡ d)). subst (λ (x : ℕ × View). L x.0 x.1) (λ i. (sym t.0 i, t.1 i)) mine)
    (λ (t : (j ≢ id) × (get_elem? vs j ≡ some d)). others j d t.0 (old j d t.1)) (at_set vs id j w d e)

-- what a step of a side owes
pub record Steps (x : Round) (h : Side) (i n : ℕ) (t : Track) : Type 0 where
  pub words : set (words_of x) i n ≡ words_of (with_track x h t)
  pub later : (x.track h).tally.tick ≤ t.tally.tick
  pub open_ : (x.track h).tally.tick ≡ t.tally.tick → (x.track h).tally.ended < (x.track h).tally.tick
  pub ok : SideOk x.lead.tick (known x.lead h) t
  pub mine : Looks x.lead.tick t (x.track (other h))
  pub theirs : Looks x.lead.tick (x.track (other h)) t

-- a receipt of an earlier tick, or of one that is not ended, is not of the tick that goes on
past : (v t u : Track) → v.tally.tick ≤ t.tally.tick → (v.tally.tick ≡ t.tally.tick → v.tally.ended < v.tally.tick)
    → (u.tally.ended ≡ u.tally.tick) × (u.tally.tick ≤ v.tally.tick) × (u.tally.tick ≡ v.tally.tick → u ≡ v)
    → u.tally.tick ≡ t.tally.tick → u ≡ t
past v t u a b k e =
    let same : u ≡ v = k.2 (omega arith) in
    let d : u.tally.ended ≡ v.tally.ended = ap (λ (z : Track). z.tally.ended) same in absurd (omega arith)

others_put : (x : Round) (h : Side) (t : Track) (id j : ℕ) (d : View) → x.seat h ≡ id → j ≢ id → (x.track h).tally.tick ≤ t.tally.tick
    → ((x.track h).tally.tick ≡ t.tally.tick → (x.track h).tally.ended < (x.track h).tally.tick)
    → Knows x j d → Knows (with_track x h t) j d
others_put x h t id j (Leads l) own n a b k = k
others_put x h t id j (Passed g p) own n a b k = k
others_put x h t id j Spent own n a b k = tt
others_put x A t id j (Acts A p u) own n a b k = absurd (n (sym k.0 ∙ own))
others_put x A t id j (Acts B p u) own n a b k = k
others_put x B t id j (Acts A p u) own n a b k = k
others_put x B t id j (Acts B p u) own n a b k = absurd (n (sym k.0 ∙ own))
others_put x A t id j (Ended B u) own n a b k = k
others_put x B t id j (Ended A u) own n a b k = k
others_put x A t id j (Ended A u) own n a b k = (k.0, omega arith, λ e. past (x.track A) t u a b k e)
others_put x B t id j (Ended B u) own n a b k = (k.0, omega arith, λ e. past (x.track B) t u a b k e)

own_after : (x : Round) (h : Side) (p id : ℕ) (t : Track) → x.seat h ≡ id → p ≤ x.lead.tick → (known x.lead h).made ≡ true
    → Knows (with_track x h t) id (Acts h p t)
own_after x A p id t own le is = (own, refl, le, is)
own_after x B p id t own le is = (own, refl, le, is)

side_step : (s : St) (r : Ruled s) (i n id : ℕ) (h : Side) (p : ℕ) (t : Track) → Knows r.round id (Acts h p (r.round.track h))
    → Steps r.round h i n t → Ruled record { words = set s.words i n; homes = s.homes; views = set s.views id (Acts h p t) }
side_step s r i n id h p t k q =
    let x : Round = r.round in record {
      round = with_track x h t;
      words = ap (λ (ws : List ℕ). set ws i n) r.words ∙ q.words;
      sound = record {
        sides = put_each (λ g u. SideOk x.lead.tick (known x.lead g) u) x.track h t q.ok r.sound.sides;
        looks = put_looks x.lead.tick x.track h t q.mine q.theirs;
      };
      views = seats_stay (Knows x) (Knows (with_track x h t)) s.views id (Acts h p t) (own_after x h p id t k.0 k.2 k.3)
          (λ j d ne o. others_put x h t id j d k.0 ne q.later q.open_ o) r.views;
    }

-- a step of a side is allowed where it is for every round
pub acting : (slots id : ℕ) (me : M) (i : ℕ) (g : ℕ → ℕ) (f : ℕ → Track → Track) (then : ℕ → M → Type 0) (h : Side) (p : ℕ) (t : Track)
    → me.0 ≡ Acts h p t
    → ((x : Round) → Sound x → x.track h ≡ t → p ≤ x.lead.tick → (known x.lead h).made ≡ true → let n : ℕ = get_or (words_of x) i 0 in
    Steps x h i (g n) (f n (x.track h)) × then n (acts (f n) me.0, me.1))
    → Allows Ruled slots id me i g then
acting slots id me i g f then h p t is does s r _ at _ =
    let x : Round = r.round in
    let k : Knows x id (Acts h p t) = subst (Knows x id) is (r.views id me.0 at) in
    let same : x.track h ≡ t = sym k.1 in
    let n : ℕ = get_or (words_of x) i 0 in
    let found : n ≡ get_or s.words i 0 = ap (λ (ws : List ℕ). get_or ws i 0) (sym r.words) in
    let q = does x r.sound same k.2 k.3 in
    let k' : Knows x id (Acts h p (x.track h)) = (k.0, refl, k.2, k.3) in
    let w : Acts h p (f n (x.track h)) ≡ acts (f n) me.0 = sym (ap (acts (f n)) is ∙ ap (λ (z : Track). Acts h p (f n z)) (sym same)) in
    let done = side_step s r i (g n) id h p (f n (x.track h)) k' q.0 in
    let moved : Ruled (stepped s i (g n) id me.1 (acts (f n) me.0) keeps) =
    subst (λ (z : View). Ruled record { words = set s.words i (g n); homes = s.homes; views = set s.views id z }) w done in
    subst (λ (m : ℕ). (w : View) × (a : Act (Unit {0})) × Valid s.homes me.1 a × Ruled (stepped s i (g m) id me.1 w a)
    × then m (w, carried_after me.1 a)) found
    (acts (f n) me.0, keeps, tt, moved, q.1)

-- the side h has begun the open tick
pub record Open (x : Round) (h : Side) (t : Track) : Type 0 where
  pub is : x.track h ≡ t
  pub made : (known x.lead h).made ≡ true
  pub at : (x.track h).tally.tick ≡ x.lead.tick
  pub begun : (x.track h).tally.ended < (x.track h).tally.tick

pub opens : (x : Round) → Sound x → (h : Side) (t : Track) → x.track h ≡ t → (known x.lead h).made ≡ true
    → t.tally.ended < t.tally.tick → Open x h t
opens x a h t is made lt =
    let o = a.sides h in
    let b : (x.track h).tally.ended < (x.track h).tally.tick = subst (λ (z : Track). z.tally.ended < z.tally.tick) (sym is) lt in
    let p = o.begun_by in
    let q = o.near in record { is = is; made = made; at = omega arith; begun = b }

-- having published before the look goes with having published and having looked
abbrev pub Led : Track → Type 0
Led t = t.tally.published_first ≡ true → (is_some t.tally.publish ≡ true) × (t.looked ≡ true)

-- what stays known of a side that goes on in its tick, from u to t
pub on : (x : Round) → Sound x → (h : Side) (u t : Track) → Open x h u → t.tally.tick ≡ (x.track h).tally.tick
    → t.tally.ended ≡ (x.track h).tally.ended → t.tally.stood ≡ (x.track h).tally.stood → (Led (x.track h) → Led t)
    → SideOk x.lead.tick (known x.lead h) t
on x a h u t o tick done stood led =
    let v : Track = x.track h in
    let k = a.sides h in
    let at : v.tally.tick ≡ x.lead.tick = o.at in
    let b : v.tally.ended < v.tally.tick = o.begun in
    let near : x.lead.tick ≤ v.tally.ended + 1 = k.near in
    let by : v.tally.ended ≤ v.tally.tick = k.done_by in record {
      done_by = omega arith;
      begun_by = omega arith;
      near = omega arith;
      told = λ e. let z : v.tally.ended ≡ x.lead.tick = (k.told e).1 in absurd (omega arith);
      rested = λ ne. absurd (ne (tick ∙ at));
      kept = λ e. stood ∙ k.kept at;
      unmade = λ e. no (sym o.made ∙ e);
      unbegun = λ e. absurd (omega arith);
      led = led k.led;
    }

pub theirs_of : (x : Round) → Sound x → (h : Side) → Looks x.lead.tick (x.track (other h)) (x.track h)
theirs_of x a A = a.looks B
theirs_of x a B = a.looks A
