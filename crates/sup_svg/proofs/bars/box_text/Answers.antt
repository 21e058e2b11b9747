use Rattle.sup_svg.specs.Pieces.{box_text}
use Rattle.sup_svg.proofs.bars.box_text.Goals as goal

pub returns : goal.returns
unfolding box_text
returns c = c.format.ensures.ok
