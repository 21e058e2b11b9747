use Rattle.std.proofs.Common.{rules}
use Rattle.sup_svg.specs.Pieces.{gap_text}
use Rattle.sup_svg.proofs.lanes.gap_text.Goals as goal

pub returns : goal.returns
unfolding gap_text
returns c = search rules
