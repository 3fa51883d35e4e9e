-- The identifiers of a head are odd and no two the same, so no frame is of two sources.
use Rattle.std.proofs.Common.{◌≡◌, ◌≢◌, ℕ, zero, suc, ◌+◌, ◌<◌, ◌%◌, true, sym, ap, ◌∙◌, subst, arith, inl, inr, List, [], ◌∷◌, ◌++◌, take, get_or, Option, Some, None}
use Rattle.std.specs.Prelude.{IfSome}
use Rattle.std.proofs.lemmas.Bool.{and_parts, eqb-true, true≢false, not-true, cases_lt, or_left, or_right}
use Rattle.std.proofs.lemmas.List.{append_assoc, append-nil}
use Rattle.lift_config.specs.Head.{is_it, is_among, fresh}
use Rattle.lift_config.specs.Ranges.{IsInRange}
use Rattle.lift_model.specs.Records.{Settings}
use Rattle.lift_model.specs.Trace.{identifiers}

-- the frames of a source with the one identifier have neither identifier of a source with the other
pub record Apart (plain other : ℕ) : Type 0 where
  pub same : other ≢ plain
  pub up : other ≢ plain + 1
  pub down : other + 1 ≢ plain

-- each identifier is odd and not among those before it
AllFresh : List (Option ℕ) → List (Option ℕ) → Type 0
AllFresh earlier [] = Unit {0}
AllFresh earlier (None ∷ ids) = AllFresh (earlier ++ None ∷ []) ids
AllFresh earlier (Some id ∷ ids) = (fresh earlier id ≡ true) × AllFresh (earlier ++ Some id ∷ []) ids

all_fresh : (config : Settings) → IsInRange config → AllFresh [] (identifiers config)
unfolding AllFresh
all_fresh config r = go config.car config.platform r.car r.doors r.panel r.platform where
  go : (car platform : Option ℕ) → IfSome car (λ id. fresh (Some config.roof ∷ Some config.pit ∷ []) id ≡ true)
      → fresh (Some config.roof ∷ Some config.pit ∷ car ∷ []) config.doors ≡ true
      → fresh (Some config.roof ∷ Some config.pit ∷ car ∷ Some config.doors ∷ []) config.panel ≡ true
      → IfSome platform (λ id. fresh (Some config.roof ∷ Some config.pit ∷ car ∷ Some config.doors ∷ Some config.panel ∷ []) id ≡ true)
      → AllFresh [] (Some config.roof ∷ Some config.pit ∷ car ∷ Some config.doors ∷ Some config.panel ∷ platform ∷ [])
  go None None c d p w = (r.roof, (r.pit, (d, (p, tt))))
  go None (Some platform) c d p w = (r.roof, (r.pit, (d, (p, (w, tt)))))
  go (Some car) None c d p w = (r.roof, (r.pit, (c, (d, (p, tt)))))
  go (Some car) (Some platform) c d p w = (r.roof, (r.pit, (c, (d, (p, (w, tt))))))

fresh_at : (earlier ids : List (Option ℕ)) (k p : ℕ) → AllFresh earlier ids → get_or ids k None ≡ Some p
    → fresh (earlier ++ take k ids) p ≡ true
unfolding AllFresh
fresh_at earlier [] k p h e = absurd (cc)
fresh_at earlier (None ∷ ids) zero p h e = absurd (cc)
fresh_at earlier (Some id ∷ ids) zero p h e = let same : id ≡ p = cc in rw append-nil (subst (λ (x : ℕ). fresh earlier x ≡ true) same h.0)
fresh_at earlier (None ∷ ids) (suc k) p h e = subst (λ xs. fresh xs p ≡ true) (append_assoc earlier (None ∷ []) (take k ids))
    (fresh_at (earlier ++ None ∷ []) ids k p h e)
fresh_at earlier (Some id ∷ ids) (suc k) p h e = subst (λ xs. fresh xs p ≡ true) (append_assoc earlier (Some id ∷ []) (take k ids))
    (fresh_at (earlier ++ Some id ∷ []) ids k p h.1 e)

among : (ids : List (Option ℕ)) (k m p : ℕ) → m < k → get_or ids m None ≡ Some p → is_among p (take k ids) ≡ true
among [] k m p l e = absurd (cc)
among (id ∷ ids) zero m p l e = absurd (omega arith)
among (id ∷ ids) (suc k) zero p l e = or_left _ _ (ap (is_it p) e ∙ here) where
  here : is_it p (Some p) ≡ true
  here = search arith
among (id ∷ ids) (suc k) (suc m) p l e = or_right _ _ (among ids k m p (omega arith) e)

odd : (earlier : List (Option ℕ)) (p : ℕ) → fresh earlier p ≡ true → p % 2 ≡ 1
odd earlier p h = eqb-true (p % 2) 1 (and_parts _ _ (and_parts _ _ h).0).1

not_before : (ids : List (Option ℕ)) (k m p q : ℕ) → m < k → fresh (take k ids) p ≡ true → get_or ids m None ≡ Some q → p ≢ q
not_before ids k m p q l h e same =
    true≢false (sym (among ids k m q l e) ∙ (ap (λ x. is_among x (take k ids)) (sym same) ∙ not-true _ (and_parts _ _ h).1))

by_parity : (p q : ℕ) → p % 2 ≡ 1 → q % 2 ≡ 1 → p ≢ q → Apart p q
by_parity p q a b n = record {
  same = λ e. n (sym e);
  up = λ e. omega arith;
  down = λ e. omega arith;
}

pub are_apart : (config : Settings) → IsInRange config → (k m p q : ℕ) → k ≢ m → get_or (identifiers config) k None ≡ Some p
    → get_or (identifiers config) m None ≡ Some q → Apart p q
are_apart config r k m p q n a b =
    let ids = identifiers config in
    let fp : fresh (take k ids) p ≡ true = fresh_at [] ids k p (all_fresh config r) a in
    let fq : fresh (take m ids) q ≡ true = fresh_at [] ids m q (all_fresh config r) b in
    by_parity p q (odd (take k ids) p fp) (odd (take m ids) q fq) (elim (cases_lt m k) [
      | inl l ↦ not_before ids k m p q l fp b
      | inr l ↦ (λ e. not_before ids m k q p (omega (arith, n, l)) fq a (sym e))
    ])
