-- Appends, one after the other.
use Rattle.std.proofs.Common.{ℕ, ◌≡◌, ◌+◌, ◌≤◌, ◌<◌, ◌⊎◌, inl, inr, List, [], ◌∷◌, ◌++◌, length, take, get_or, sym, ◌∙◌, ap, subst, arith, append_assoc}
use Rattle.std.proofs.lemmas.List.{append-nil, take_more, take_all}
use Rattle.script_model.specs.Changes.{ChangeData}
use Rattle.record_disk.specs.Disk.{Content, State, Told, Silent, Tells, IfTold, BothTold, IsPresent, LeavesOnly}
use Rattle.record_disk.proofs.Moments.{Between, starts, weaken, run_on, both_start, both_map, both_then, both_with, if_with}
use Rattle.record_store.specs.Record.{IsClean}
use Rattle.record_store.specs.Store.{Stands, HasFront, LeavesOneMore, LeavesFront, KeepsAll}
use Rattle.record_store.proofs.Clean.{clean_same}

both_and_last : (a b : Told) (P Q : Between) (S : State → Type 0) → ((s t : State) → P s t → S t → Q s t)
    → BothTold a b P → IfTold b S → BothTold a b Q
both_and_last Silent Silent P Q S f h k = tt
both_and_last Silent (Tells t) P Q S f h k = absurd h
both_and_last (Tells s) Silent P Q S f h k = absurd h
both_and_last (Tells s) (Tells t) P Q S f h k = f s t h k

module _ (xs : List ChangeData) where
  -- so many were appended, and a crash since leaves a front of them all
  abbrev pub Appended : ℕ → Between
  Appended i s t = (entries : List ChangeData) → IsClean s.reads entries
      → LeavesOnly s t (HasFront entries xs) × IsClean t.reads (entries ++ take i xs)

  none : (n : ℕ) (s : State) → IsPresent s × Stands n s → Appended 0 s s
  none n s (present, stands) entries clean =
      let whole = entries ++ take 0 xs in
      let here : IsClean s.reads whole = subst (IsClean s.reads) (sym (append-nil entries)) clean in (
        starts s (HasFront entries xs) present (λ c now. (0, omega arith, clean_same s.reads c whole here (stands.durable c now))),
        here,
      )

  pub none_yet : (n : ℕ) (a : Told) → IfTold a IsPresent → IfTold a (Stands n) → BothTold a a (Appended 0)
  none_yet n a present stands =
      let Both : State → Type 0 = λ s. IsPresent s × Stands n s in
      both_start a (Appended 0) Both (none n) (if_with a IsPresent (Stands n) Both (λ s p q. (p, q)) present stands)

  module _ (i : ℕ) (x : ChangeData) (lt : i < length xs) (is : x ≡ get_or xs i x) where
    one_more : (entries : List ChangeData) → (entries ++ take i xs) ++ x ∷ [] ≡ entries ++ take (i + 1) xs
    one_more entries =
        let more : take (i + 1) xs ≡ take i xs ++ x ∷ [] = take_more xs i x lt ∙ ap (λ (y : ChangeData). take i xs ++ y ∷ []) (sym is) in
        append_assoc entries (take i xs) (x ∷ []) ∙ ap (λ (l : List ChangeData). entries ++ l) (sym more)

    abbrev OneMore : List ChangeData → Content → Type 0
    OneMore entries c = IsClean c (entries ++ take i xs) ⊎ IsClean c ((entries ++ take i xs) ++ x ∷ [])

    front : (entries : List ChangeData) (c : Content) → OneMore entries c → HasFront entries xs c
    front entries c (inl before) = (i, omega arith, before)
    front entries c (inr with_it) = (i + 1, omega arith, subst (IsClean c) (one_more entries) with_it)

    step : (s t v : State) → Appended i s t → LeavesOneMore x t v → LeavesFront xs s v
    step s t v so moments entries clean =
        let was = so entries clean in
        run_on s t v (HasFront entries xs) was.0
        (weaken t v (OneMore entries) (HasFront entries xs) (front entries) (moments (entries ++ take i xs) was.1))

    module _ (a b c : Told) (so : BothTold a b (Appended i)) (moments : BothTold b c (LeavesOneMore x)) where
      pub stops : BothTold a c (LeavesFront xs)
      stops = both_then a b c (Appended i) (LeavesOneMore x) (LeavesFront xs) step so moments

      abbrev Both : Between
      Both t v = LeavesOneMore x t v × KeepsAll (x ∷ []) t v

      pub goes_on : BothTold b c (KeepsAll (x ∷ [])) → BothTold a c (Appended (i + 1))
      goes_on done = both_then a b c (Appended i) Both (Appended (i + 1))
          (λ s t v one two entries clean. (
            step s t v one two.0 entries clean,
            subst (IsClean v.reads) (one_more entries) (two.1 (entries ++ take i xs) (one entries clean).1).0,
          ))
          so (both_with b c (LeavesOneMore x) (KeepsAll (x ∷ [])) Both (λ s t p q. (p, q)) moments done)

  pub fronts : (i : ℕ) (a b : Told) → BothTold a b (Appended i) → BothTold a b (LeavesFront xs)
  fronts i a b so = both_map a b (Appended i) (LeavesFront xs) (λ s t h entries clean. (h entries clean).0) so

  pub all_done : (i n : ℕ) (a b : Told) → length xs ≤ i → IfTold b (Stands n) → BothTold a b (Appended i) → BothTold a b (KeepsAll xs)
  all_done i n a b all stands so = both_and_last a b (Appended i) (KeepsAll xs) (Stands n) done so stands
    where
      done : (s t : State) → Appended i s t → Stands n t → KeepsAll xs s t
      done s t h stands entries clean =
          let Clean : List ChangeData → Type 0 = λ l. IsClean t.reads (entries ++ l) in
          let whole : Clean xs = subst Clean (take_all i xs all) (h entries clean).1 in
          (whole, λ c now. clean_same t.reads c (entries ++ xs) whole (stands.durable c now))
