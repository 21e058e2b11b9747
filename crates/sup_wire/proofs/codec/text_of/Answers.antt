use Rattle.sup_wire.specs.Drafts.{IsDraftOfImage}
use Rattle.sup_wire.specs.Faults.{IsImageInRange}
use Rattle.sup_wire.proofs.Adding.{text_alone}
use Rattle.sup_wire.proofs.codec.text_of.Goals as goal

pub returns-clause-text : goal.returns-clause-text
returns-clause-text c = record {
  text = text_alone IsDraftOfImage IsImageInRange c.args.image.now _ c.in_ok-text.text.text c.new.ensures.items c.in_ok-text.ensures.text;
  rows = c.in_ok-text.ensures.rows;
}
