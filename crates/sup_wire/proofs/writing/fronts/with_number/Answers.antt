use Rattle.sup_wire.specs.Forms.{count_value}
use Rattle.sup_wire.proofs.FrontLaws.{field_written}
use Rattle.sup_wire.proofs.writing.fronts.with_number.Goals as goal

pub returns : goal.returns
returns c = field_written c.new-out.result c.number_field.new.out c.args.front.items c.into_inner.result.items c.in_ok-text.text.items c.args.name.now (count_value c.args.n) c.new-out.ensures.before c.new-out.ensures.tokens c.in_ok-number_field.ensures c.into_inner.ensures.items c.in_ok-text.ensures
