use Rattle.sup_svg.specs.Pieces.{lane_text}
use Rattle.sup_svg.proofs.lanes.lane_text.Goals as goal

pub returns : goal.returns
unfolding lane_text
returns c = rw (c.x_of-x.ensures.x, c.y_of-y.ensures.y, c.as_str-name.ensures.value) at c.format.ensures.ok
