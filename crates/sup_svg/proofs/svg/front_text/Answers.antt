use Rattle.std.proofs.Common.{rules}
use Rattle.sup_svg.specs.Pieces.{front_text}
use Rattle.sup_svg.proofs.svg.front_text.Goals as goal

pub returns : goal.returns
unfolding front_text
returns c = search rules
