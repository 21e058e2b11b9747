use Rattle.sup_svg.specs.Pieces.{arrow_text}
use Rattle.sup_svg.proofs.arrows.arrow_text.Goals as goal

pub returns-in-Came : goal.returns-in-Came
unfolding arrow_text
returns-in-Came c = rw (c.in-Came.is, ← c.x_of-from.ensures.x, ← c.x_of-to.ensures.x) c.came_text.ensures

pub returns-in-Lost : goal.returns-in-Lost
unfolding arrow_text
returns-in-Lost c = rw (c.in-Lost.is, ← c.x_of-from.ensures.x, ← c.x_of-to.ensures.x) c.lost_text.ensures
