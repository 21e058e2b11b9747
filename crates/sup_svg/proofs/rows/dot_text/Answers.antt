use Rattle.std.proofs.Common.{rules}
use Rattle.sup_svg.specs.Pieces.{dot_text}
use Rattle.sup_svg.proofs.rows.dot_text.Goals as goal

pub returns : goal.returns
unfolding dot_text
returns c = search rules
