use Rattle.std.proofs.Common.{refl}
use Rattle.sup_wire.specs.Drafts.{image}
use Rattle.sup_wire.specs.DraftReads.{parts_read}
use Rattle.sup_wire.proofs.reading.images.of_fields.Goals as goal

pub returns : goal.returns
returns c =
    let p = parts_read c.in_ok-node.parts in
    (image c.in_ok-node.node c.in_ok-node.boot c.in_ok-node.count p, c.in_ok-node.ensures, (p, c.in_ok-state.ensures.0, refl), c.in_ok-state.ensures.1)
