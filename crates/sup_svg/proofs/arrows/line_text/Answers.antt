use Rattle.sup_svg.specs.Pieces.{line_text}
use Rattle.sup_svg.proofs.arrows.line_text.Goals as goal

pub returns : goal.returns
unfolding line_text
returns c = c.format.ensures.ok
