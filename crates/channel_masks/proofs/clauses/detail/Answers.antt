use Rattle.std.proofs.Common.{◌≡◌, ◌∙◌, ℕ, List, [], ◌∷◌, Some, get_or, refl, sym, ap}
use Rattle.lift_model.specs.Stations.{mode_of}
use Rattle.lift_model.specs.Grant.{Facts}
use Rattle.channel_masks.specs.Gap.{gap_of}
use Rattle.channel_masks.proofs.ClauseLemmas.{details, each_detail}
use Rattle.channel_masks.proofs.clauses.detail.Goals as goal

pub returns : goal.returns
returns c =
    let inside : Facts = record {
      there = c.facts.inside.there;
      missing = c.facts.inside.missing;
      image = c.facts.inside.image;
      contact_fault = c.facts.inside.contact_fault;
      pit_latched = c.facts.inside.pit_latched;
      doors_faulty = c.facts.inside.doors_faulty;
    } in
    let gap : c.args.gap ≡ gap_of inside (mode_of inside.image) =
    c.requires.gap ∙ ap (λ (f : Facts). gap_of f (mode_of f.image)) (sym c.facts.view_is) in
    let told : c.unwrap_or.result ∷ c.unwrap_or-2.result ∷ 0 ∷ c.bypassed_door.result ∷ 0 ∷ 0
    ∷ c.unwrap_or-3.result ∷ 0 ∷ 0 ∷ 0 ∷ 0 ∷ c.unwrap_or-4.result ∷ []
    ≡ details inside =
    rw (
      c.unwrap_or.ensures,
      c.unwrap_or-2.ensures,
      c.first_discrepant.ensures,
      c.bypassed_door.ensures,
      c.unwrap_or-3.ensures,
      c.unwrap_or-4.ensures,
      c.limit_reached.ensures,
      gap,
    ) refl in
    each_detail c.args.facts.now c.args.i c.requires.clause c.requires.fails
    ∙ ap (λ (xs : List ℕ). Some (get_or xs c.args.i 0)) (sym (told ∙ ap details c.facts.view_is))
