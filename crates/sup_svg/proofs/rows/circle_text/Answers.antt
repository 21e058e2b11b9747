use Rattle.sup_svg.specs.Pieces.{circle_text}
use Rattle.sup_svg.proofs.rows.circle_text.Goals as goal

pub returns : goal.returns
unfolding circle_text
returns c = rw (c.y_of-y.ensures.y, c.as_str-said.ensures.value, c.in_ok-said.ensures, c.as_slice.ensures) at c.format.ensures.ok
