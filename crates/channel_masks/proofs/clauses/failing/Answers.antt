use Rattle.std.proofs.Common.{◌≡◌, ◌∙◌, Bool, false, List, [], ◌∷◌, get_or, refl, sym, ap}
use Rattle.lift_model.specs.Enums.{Mode}
use Rattle.lift_model.specs.Bits.{has}
use Rattle.lift_model.specs.Stations.{mode_of}
use Rattle.lift_model.specs.Grant.{Facts}
use Rattle.lift_model.proofs.BitLemmas.{has_and}
use Rattle.channel_masks.specs.Asked.{asked}
use Rattle.channel_masks.specs.Gap.{gap_of}
use Rattle.channel_masks.proofs.ClauseLemmas.{tests, each_clause}
use Rattle.channel_masks.proofs.clauses.failing.Goals as goal

pub returns-clause-fails : goal.returns-clause-fails
returns-clause-fails c i h =
    let inside : Facts = record {
      there = c.facts.inside.there;
      missing = c.facts.inside.missing;
      image = c.facts.inside.image;
      contact_fault = c.facts.inside.contact_fault;
      pit_latched = c.facts.inside.pit_latched;
      doors_faulty = c.facts.inside.doors_faulty;
    } in
    let facts = c.args.facts.now in
    let gap : c.args.gap ≡ gap_of inside (mode_of inside.image) =
    c.requires.gap ∙ (ap (gap_of facts) c.requires.mode ∙ ap (λ (f : Facts). gap_of f (mode_of f.image)) (sym c.facts.view_is)) in
    let tested : c.is_some.result ∷ c.wire_fails.result ∷ c.both_bypassed.result ∷ c.is_bypassed.result
    ∷ inside.pit_latched ∷ inside.doors_faulty
    ∷ c.is_some-2.result ∷ c.is_monitor_open.result ∷ c.has_no_button.result ∷ c.has_no_emergency_button.result
    ∷ c.is_not_requested.result ∷ c.is_some-3.result ∷ []
    ≡ tests inside =
    rw (
      c.is_some.ensures,
      c.wire_fails.ensures,
      c.both_bypassed.ensures,
      c.is_bypassed.ensures,
      c.is_some-2.ensures,
      c.is_monitor_open.ensures,
      c.has_no_button.ensures,
      c.has_no_emergency_button.ensures,
      c.is_not_requested.ensures,
      c.is_some-3.ensures,
      c.limit_reached.ensures,
      gap,
    ) refl in
    let set : has c.set_of.result i ≡ get_or (tests facts) i false =
    c.set_of.ensures i h ∙ (ap (λ (bits : List Bool). get_or bits i false) tested
    ∙ ap (λ (f : Facts). get_or (tests f) i false) c.facts.view_is) in
    let mask : has c.asked.result i ≡ get_or (asked (mode_of facts.image)) i false =
    c.asked.ensures.asked i h ∙ ap (λ (mode : Mode). get_or (asked mode) i false) c.requires.mode in
    has_and c.set_of.result c.asked.result i ∙ (rw (set, mask) (each_clause facts i h))
