use Rattle.std.proofs.Common.{rules}
use Rattle.sup_svg.specs.Pieces.{path_text}
use Rattle.sup_svg.proofs.arrows.path_text.Goals as goal

pub returns : goal.returns
unfolding path_text
returns c = search rules
