-- Each step of the conductor keeps the rule.
use Rattle.std.proofs.Common.{◌≡◌, ◌≢◌, ℕ, ◌+◌, ◌≤◌, true, List, get_or, set, sym, refl, ap, ◌∙◌, subst, arith}
use mathlib.Core.Option.{none, some}
use lib.ListN.{get_elem?}
use lib.Seq.{set-get_or}
use Rattle.atomic_table.specs.Table.{step, keeps, Allows}
use Rattle.atomic_table.proofs.Lists.{set_again}
use Rattle.lift_base.specs.declared.Side.{Side}
use Rattle.lift_base.specs.declared.Side.TheVariants.{A, B}
use Rattle.round_board.specs.declared.view.Track.{Track}
use Rattle.round_board.specs.declared.view.Known.{Known}
use Rattle.round_board.specs.declared.view.Lead.{Lead}
use Rattle.round_board.specs.declared.view.View.{View}
use Rattle.round_board.specs.declared.view.View.TheVariants.{Leads, Acts, Passed, Ended, Spent}
use Rattle.round_board.specs.Tallies.{other, words_left}
use Rattle.round_board.specs.Rule.{known, Round, words_of, SideOk, Looks, Knows, Sound, Ruled}
use Rattle.round_board.specs.Moves.{lead_of, raised, raised_known, leads, raises, known_words, Closed, reads}
use Rattle.round_board.proofs.Rounds.{St, M, no, with_track, seats_stay}

abbrev pub with_lead : Round → Lead → Round
with_lead x l = record x { lead = l }

-- what the others know stays where the conductor knows more
pub others_lead : (x : Round) (l : Lead) (id j : ℕ) (d : View) → id ≡ 0 → j ≢ id → x.lead.tick ≤ l.tick
    → ((h : Side) → (known x.lead h).made ≡ true → (known l h).made ≡ true) → Knows x j d → Knows (with_lead x l) j d
others_lead x l id j (Leads k) own ne le m q = absurd (ne (q.0 ∙ sym own))
others_lead x l id j (Acts h p t) own ne le m q = (q.0, q.1, omega arith, m h q.3)
others_lead x l id j (Passed h p) own ne le m q = let q' : p ≤ x.lead.tick = q in omega arith
others_lead x l id j (Ended h t) own ne le m q = q
others_lead x l id j Spent own ne le m q = tt

lead_step : (s : St) (r : Ruled s) (i n id : ℕ) (l : Lead) → id ≡ 0 → set (words_of r.round) i n ≡ words_of (with_lead r.round l)
    → r.round.lead.tick ≤ l.tick → ((h : Side) → (known r.round.lead h).made ≡ true → (known l h).made ≡ true) → Sound (with_lead r.round l)
    → Ruled record { words = set s.words i n; homes = s.homes; views = set s.views id (Leads l) }
lead_step s r i n id l own words later makes sound = record {
  round = with_lead r.round l;
  words = ap (λ (ws : List ℕ). set ws i n) r.words ∙ words;
  sound = sound;
  views = seats_stay (Knows r.round) (Knows (with_lead r.round l)) s.views id (Leads l) (own, refl)
      (λ j d ne o. others_lead r.round l id j d own ne later makes o) r.views;
}

known_raised : (l : Lead) (h : Side) → known (raised l) h ≡ raised_known (known l h)
known_raised l A = refl
known_raised l B = refl

-- a side whose receipt was taken, in the tick that is raised
raised_side : (n : ℕ) (k : Known) (t : Track) → k.told ≡ true → SideOk n k t → SideOk (n + 1) (raised_known k) t
raised_side n k t told o =
    let q = o.told told in
    let d : t.tally.ended ≡ n = q.1 in
    let c : t.tally.tick ≤ n = o.begun_by in
    let b : t.tally.ended ≤ t.tally.tick = o.done_by in record {
      done_by = b;
      begun_by = omega arith;
      near = omega arith;
      told = λ e. no (sym e);
      rested = λ _. ap (λ (z : Track). words_left z.tally) q.0;
      kept = λ e. absurd (omega arith);
      unmade = o.unmade;
      unbegun = o.unbegun;
      led = o.led;
    }

raised_sound : (x : Round) → Sound x → x.lead.a.told ≡ true → x.lead.b.told ≡ true → Sound (with_lead x (raised x.lead))
raised_sound x a ta tb = record { sides = side; looks = look }
  where
    side : (h : Side) → SideOk (x.lead.tick + 1) (known (raised x.lead) h) (x.track h)
    side A = raised_side x.lead.tick x.lead.a (x.track A) ta (a.sides A)
    side B = raised_side x.lead.tick x.lead.b (x.track B) tb (a.sides B)

    look : (h : Side) → Looks (x.lead.tick + 1) (x.track h) (x.track (other h))
    look h =
        let c : (x.track h).tally.tick ≤ x.lead.tick = (a.sides h).begun_by in
        record { saw = λ e. absurd (omega arith); crossed = λ e. absurd (omega arith) }

-- stores the tick
pub raises_moves : (slots id : ℕ) (me : M) (l : Lead) (n : ℕ) → me.0 ≡ Leads l → l.a.told ≡ true → l.b.told ≡ true → n ≡ l.tick + 1
    → Allows Ruled slots id me 1 (λ _. n) (λ _. raises (step slots 1 n 0 none) me n)
raises_moves slots id me l n is ta tb value s r _ at _ =
    let x : Round = r.round in
    let k : Knows x id (Leads l) = subst (Knows x id) is (r.views id me.0 at) in
    let same : l ≡ x.lead = k.1 in
    let v : n ≡ x.lead.tick + 1 = value ∙ ap (λ (z : Lead). z.tick + 1) same in
    let ta' : x.lead.a.told ≡ true = ap (λ (z : Lead). z.a.told) (sym same) ∙ ta in
    let tb' : x.lead.b.told ≡ true = ap (λ (z : Lead). z.b.told) (sym same) ∙ tb in
    let done = lead_step s r 1 n id (raised x.lead) k.0 (ap (λ (z : ℕ). set (words_of x) 1 z) v) (omega arith)
    (λ h e. ap (λ (z : Known). z.made) (known_raised x.lead h) ∙ e) (raised_sound x r.sound ta' tb') in
    let w : Leads (raised x.lead) ≡ leads raised me.0 = sym (ap (leads raised) is ∙ ap (λ (z : Lead). Leads (raised z)) same) in
    let moved = subst (λ (z : View). Ruled record { words = set s.words 1 n; homes = s.homes; views = set s.views id z }) w done in
    (leads raised me.0, keeps, tt, moved, refl)

-- the same words and views
unmoved : (s : St) (r : Ruled s) (i id : ℕ) (v : View) → get_elem? s.views id ≡ some v
    → Ruled record { words = set s.words i (get_or s.words i 0); homes = s.homes; views = set s.views id v }
unmoved s r i id v at = record {
  round = r.round;
  words = set-get_or s.words i 0 ∙ r.words;
  sound = r.sound;
  views = λ j d e. r.views j d (subst (λ (vs : List View). get_elem? vs j ≡ some d) (set_again s.views id v at) e);
}

pub told_words : (x : Round) → x.track A ≡ x.lead.a.now → x.track B ≡ x.lead.b.now → words_of x ≡ known_words x.lead
told_words x p q =
    ap (λ (t : Track). words_of (with_track x A t)) p ∙ ap (λ (t : Track). words_of (with_track (with_track x A x.lead.a.now) B t)) q

-- a side whose receipt was taken has begun the tick
told_tick : (n : ℕ) (k : Known) (t : Track) → k.told ≡ true → SideOk n k t → t.tally.tick ≡ n
told_tick n k t told o =
    let e : t.tally.ended ≡ n = (o.told told).1 in
    let p : t.tally.ended ≤ t.tally.tick = o.done_by in
    let q : t.tally.tick ≤ n = o.begun_by in omega arith

pub closed : (x : Round) → Sound x → x.lead.a.told ≡ true → x.lead.b.told ≡ true → Closed x.lead
closed x a ta tb =
    let qa = (a.sides A).told ta in
    let qb = (a.sides B).told tb in
    let ea = told_tick x.lead.tick x.lead.a (x.track A) ta (a.sides A) in
    let eb = told_tick x.lead.tick x.lead.b (x.track B) tb (a.sides B) in record {
      tick_a = subst (λ (z : Track). z.tally.tick ≡ x.lead.tick) qa.0 ea;
      tick_b = subst (λ (z : Track). z.tally.tick ≡ x.lead.tick) qb.0 eb;
      stood_a = subst (λ (z : Track). z.tally.stood ≡ x.lead.a.was) qa.0 ((a.sides A).kept ea);
      stood_b = subst (λ (z : Track). z.tally.stood ≡ x.lead.b.was) qb.0 ((a.sides B).kept eb);
      led_a = subst (λ (z : Track). z.tally.published_first ≡ true → z.looked ≡ true) qa.0 (λ e. ((a.sides A).led e).1);
      led_b = subst (λ (z : Track). z.tally.published_first ≡ true → z.looked ≡ true) qb.0 (λ e. ((a.sides B).led e).1);
      looks_a = subst (λ (z : Track × Track). Looks x.lead.tick z.0 z.1) (λ i. (qa.0 i, qb.0 i)) (a.looks A);
      looks_b = subst (λ (z : Track × Track). Looks x.lead.tick z.0 z.1) (λ i. (qb.0 i, qa.0 i)) (a.looks B);
    }

-- loads a word
pub reads_moves : (slots id : ℕ) (me : M) (l : Lead) (i : ℕ) → me.0 ≡ Leads l → l.a.told ≡ true → l.b.told ≡ true
    → Allows Ruled slots id me i (λ n. n) (reads (step slots i 0 0 none) me)
reads_moves slots id me l i is ta tb s r _ at _ =
    let x : Round = r.round in
    let k : Knows x id (Leads l) = subst (Knows x id) is (r.views id me.0 at) in
    let same : x.lead ≡ lead_of me.0 = sym (ap lead_of is ∙ k.1) in
    let ta' : x.lead.a.told ≡ true = ap (λ (z : Lead). z.a.told) (sym k.1) ∙ ta in
    let tb' : x.lead.b.told ≡ true = ap (λ (z : Lead). z.b.told) (sym k.1) ∙ tb in
    let words : s.words ≡ known_words x.lead = r.words ∙ told_words x ((r.sound.sides A).told ta').0 ((r.sound.sides B).told tb').0 in
    let read = ap (λ (ws : List ℕ). get_or ws i 0) (words ∙ ap known_words same) in
    (me.0, keeps, tt, unmoved s r i id me.0 at, (refl, read, subst Closed same (closed x r.sound ta' tb')))
