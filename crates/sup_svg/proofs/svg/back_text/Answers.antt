use Rattle.sup_svg.specs.Pieces.{back_text}
use Rattle.sup_svg.proofs.svg.back_text.Goals as goal

pub returns : goal.returns
unfolding back_text
returns c = c.format.ensures.ok
