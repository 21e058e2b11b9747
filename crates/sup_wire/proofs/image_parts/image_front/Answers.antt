use Rattle.std.proofs.Common.{◌++◌, ap, ◌∙◌}
use Rattle.sup_wire.specs.ImageTexts.{image_front}
use Rattle.sup_wire.specs.Writing.{parts_lent}
use Rattle.sup_wire.proofs.image_parts.image_front.Goals as goal

pub returns-clause-text : goal.returns-clause-text
returns-clause-text c = record {
  parts = parts_lent c.in_ok-parts.parts;
  is_vector = c.in_ok-parts.ensures.vector;
  is_cloud = c.in_ok-parts.ensures.cloud;
  name = c.in_ok-text.ensures.name;
  vector_names = c.in_ok-text.ensures.vector;
  cloud_names = c.in_ok-text.ensures.cloud;
  is = c.in_ok-text.ensures.text ∙ ap (λ f. f ++ image_front c.args.heading.now.node c.args.heading.now.boot c.args.heading.now.count (parts_lent c.in_ok-parts.parts)) c.new.ensures.items;
}
