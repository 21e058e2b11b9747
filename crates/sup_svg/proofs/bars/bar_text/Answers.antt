use Rattle.std.proofs.Common.{rules}
use Rattle.sup_svg.specs.Pieces.{bar_text}
use Rattle.sup_svg.proofs.bars.bar_text.Goals as goal

pub returns : goal.returns
unfolding bar_text
returns c = search rules
