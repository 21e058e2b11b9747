use Rattle.std.proofs.Common.{rules}
use Rattle.sup_svg.specs.Pieces.{band_text}
use Rattle.sup_svg.proofs.rows.band_text.Goals as goal

pub returns : goal.returns
unfolding band_text
returns c = search rules
