-- What a decision says whichever row gave it.
use Rattle.std.proofs.Common.{ℕ, refl, inl, inr, eqb}
use Rattle.std.specs.Prelude.{◌||◌, ◌&&◌, not}
use Rattle.std.proofs.lemmas.Bool.{cases_Bool}
use Rattle.core_model.specs.Decision.{IsOwn, Kept, Told, decided, renewed, off_for, is_unlocking}
use Rattle.core_model.specs.Words.{is_off, is_same, matches}

off : (t : Told) (reason detail : ℕ) → IsOwn t (off_for t reason detail)
off t reason detail = record { stamp = refl; kind = inl refl }

-- whichever row gave it, a command is Off or of the own kind
pub decided-says : (s : Kept) (t : Told) → IsOwn t (decided s t).command
decided-says s t =
    let r = renewed s t in
    elim (cases_Bool (is_unlocking s t)) [
      | inl e ↦ rw e (off t _ _)
      | inr e ↦ rw e (
          elim (cases_Bool s.locked) [
            | inl e ↦ rw e (off t _ _)
            | inr e ↦ rw e (
                elim (cases_Bool (eqb r.misses 3 || eqb r.off_closed 3)) [
                  | inl e ↦ rw e (off t _ _)
                  | inr e ↦ rw e (
                      elim (cases_Bool (is_off t.own.kind)) [
                        | inl e ↦ rw e (off t _ _)
                        | inr e ↦ rw e (
                            elim (cases_Bool (matches t.stamp t.own t.before t.seen)) [
                              | inr e ↦ rw e (off t _ _)
                              | inl m ↦ rw m (
                                  elim (cases_Bool (eqb r.on_open 3)) [
                                    | inl e ↦ rw e (off t _ _)
                                    | inr e ↦ rw e (
                                        elim (cases_Bool (is_off s.last && (t.closed_a || t.closed_b))) [
                                          | inl e ↦ rw e (off t _ _)
                                          | inr e ↦ rw e (
                                              elim (cases_Bool (not (is_off s.last) && not (is_same s.last t.own.kind))) [
                                                | inl e ↦ rw e (off t _ _)
                                                | inr e ↦ rw e
                                                    (record {
                                                      stamp = refl;
                                                      kind = inr (record {
                                                        kind = refl;
                                                        agreed = m;
                                                        alarm = refl;
                                                        no_reason = refl;
                                                        no_detail = refl;
                                                      });
                                                    })
                                              ])
                                        ])
                                  ])
                            ])
                      ])
                ])
          ])
    ]
