use Rattle.sup_svg.specs.Pieces.{root_text}
use Rattle.sup_svg.proofs.svg.root_text.Goals as goal

pub returns : goal.returns
unfolding root_text
returns c = c.format.ensures.ok
