use Rattle.sup_svg.specs.Pieces.{upright_text}
use Rattle.sup_svg.proofs.lanes.upright_text.Goals as goal

pub returns : goal.returns
unfolding upright_text
returns c = c.format.ensures.ok
