use Rattle.sup_svg.specs.Pieces.{label_text}
use Rattle.sup_svg.proofs.rows.label_text.Goals as goal

pub returns : goal.returns
unfolding label_text
returns c = rw (c.y_of.ensures.y, c.as_str-said.ensures.value, c.in_ok-said.ensures, c.first_line.ensures, c.as_slice.ensures) at c.format.ensures.ok
