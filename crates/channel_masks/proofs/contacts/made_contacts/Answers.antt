use Rattle.std.proofs.Common.{◌≡◌, ◌∙◌, refl, ap}
use Rattle.lift_model.specs.Records.{ImageData}
use Rattle.lift_model.specs.Bits.{has}
use Rattle.channel_masks.proofs.ContactLemmas.{all_put, all_put-is}
use Rattle.channel_masks.proofs.contacts.made_contacts.Goals as goal

pub returns : goal.returns
returns c i h =
    let image = c.args.image.now in
    let wires = has c.made_on_wires-made.result.0 in
    let put : has c.put-8.new.self.0 i ≡ all_put image c.args.there.now wires i =
    rw (
      c.put-8.ensures i,
      c.put-7.ensures i,
      c.put-6.ensures i,
      c.put-5.ensures i,
      c.put-4.ensures i,
      c.put-3.ensures i,
      c.put-2.ensures i,
      c.put.ensures i,
      c.bit_made.ensures,
      c.bit_made-2.ensures,
      c.bit_made-3.ensures,
      c.bit_made-4.ensures,
      c.bit_made-5.ensures,
      c.bit_made-6.ensures,
      c.bit_made-7.ensures,
      c.bit_made-8.ensures,
    ) refl in
    let a = ap (λ (d : ImageData). d.words.a) c.image.view_is in
    let b = ap (λ (d : ImageData). d.words.b) c.image.view_is in
    put ∙ all_put-is image c.args.there.now wires (λ j l. c.made_on_wires-made.ensures j l ∙ (rw (a, b) refl)) i h
