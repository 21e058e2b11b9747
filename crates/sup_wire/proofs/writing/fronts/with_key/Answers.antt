use Rattle.sup_wire.proofs.FrontLaws.{key_written}
use Rattle.sup_wire.proofs.writing.fronts.with_key.Goals as goal

pub returns : goal.returns
returns c = key_written c.new-out.result c.key.new.self c.args.front.items c.into_inner.result.items c.args.name.now c.new-out.ensures.before c.new-out.ensures.tokens c.in_ok-key.ensures.room.0 c.in_ok-key.ensures.ok c.into_inner.ensures.items
