use Rattle.std.proofs.Common.{not, sym}
use Rattle.std.proofs.Math.Bool.{and-true, and-false}
use Rattle.channel_walker.proofs.TableLemmas.{row-past, row-made}
use Rattle.channel_walker.proofs.contacts.is_open.Goals as goal

pub returns-then-not-is_made : goal.returns-then-not-is_made
returns-then-not-is_made c =
    let i = c.args.i in
    let got = c.row-contact.ensures.row in
    rw (
      ← row-past c.args.operation i c.row-contact.result c.requires got,
      ← row-made c.args.image.now c.args.there.now i c.row-contact.result c.requires got,
      ← c.is_made.ensures,
      ← c.is_past.ensures,
      c.if-not-is_made.true,
    ) (sym (and-true (not c.is_past.result)))

pub returns-else-not-is_made : goal.returns-else-not-is_made
returns-else-not-is_made c =
    let got = c.row-contact.ensures.row in
    rw (
      ← row-made c.args.image.now c.args.there.now c.args.i c.row-contact.result c.requires got,
      ← c.is_made.ensures,
      c.if-not-is_made.false,
    )
    (sym (and-false _))
