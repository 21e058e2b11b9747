use Rattle.std.proofs.Common.{refl}
use Rattle.sup_wire.specs.Drafts.{push}
use Rattle.sup_wire.specs.DraftReads.{parts_read}
use Rattle.sup_wire.proofs.reading.messages.push_of.Goals as goal

pub returns : goal.returns
returns c =
    let p = parts_read c.in_ok-from.parts in
    (push c.in_ok-from.from c.in_ok-from.to p, c.in_ok-from.ensures, (p, c.in_ok-delta.ensures.0, refl), c.in_ok-delta.ensures.1)
