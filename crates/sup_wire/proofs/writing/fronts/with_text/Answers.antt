use Rattle.serde_json.specs.Data.{string}
use Rattle.sup_wire.proofs.FrontLaws.{field_written}
use Rattle.sup_wire.proofs.writing.fronts.with_text.Goals as goal

pub returns : goal.returns
returns c = field_written c.new-out.result c.text_field.new.out c.args.front.items c.into_inner.result.items c.in_ok-all.all.items c.args.name.now (string c.args.text.now) c.new-out.ensures.before c.new-out.ensures.tokens c.in_ok-text_field.ensures c.into_inner.ensures.items c.in_ok-all.ensures
