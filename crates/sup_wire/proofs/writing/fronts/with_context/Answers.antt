use Rattle.std.proofs.Common.{codes}
use Rattle.sup_wire.specs.Forms.{context_value}
use Rattle.sup_wire.specs.Writing.{parts_lent}
use Rattle.sup_wire.proofs.Adding.{adds_field}
use Rattle.sup_wire.proofs.FrontLaws.{field_written}
use Rattle.sup_wire.proofs.writing.fronts.with_context.Goals as goal

pub returns-clause-text : goal.returns-clause-text
returns-clause-text c =
    let d = context_value (parts_lent c.args.parts.now) in
    let adds = adds_field c.new-out.result c.key.new.self c.write_context.new.out (codes "ctx") d c.in_ok-key.ensures.room.0 c.in_ok-key.ensures.ok c.in_ok-write_context.ensures.adds in
    field_written c.new-out.result c.write_context.new.out c.args.front.items c.into_inner.result.items c.in_ok-text.text.items (codes "ctx") d c.new-out.ensures.before c.new-out.ensures.tokens adds c.into_inner.ensures.items c.in_ok-text.ensures
