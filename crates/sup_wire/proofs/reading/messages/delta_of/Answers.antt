use Rattle.std.proofs.Common.{refl}
use Rattle.sup_wire.specs.Drafts.{delta}
use Rattle.sup_wire.specs.DraftReads.{parts_read}
use Rattle.sup_wire.proofs.reading.messages.delta_of.Goals as goal

pub returns : goal.returns
returns c =
    let p = parts_read c.in_ok-from.parts in
    (delta c.in_ok-from.from c.in_ok-from.to c.in_ok-from.n p, c.in_ok-from.ensures, (p, c.in_ok-delta.ensures.0, refl), c.in_ok-delta.ensures.1)
