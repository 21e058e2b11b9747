use Rattle.sup_svg.specs.Pieces.{row_text}
use Rattle.sup_svg.proofs.rows.row_text.Goals as goal

pub returns : goal.returns
unfolding row_text
returns c = rw (c.y_of-y.ensures.y, c.as_str-line.ensures.value, c.in_ok-line.ensures, c.as_slice.ensures, c.as_str-mark.ensures.value, c.in_ok-mark.ensures) at c.format.ensures.ok
