use Rattle.sup_picture.proofs.arrows.arrow_of.Goals as goal

pub returns-in-Left : goal.returns-in-Left
returns-in-Left c = rw c.in-Left.is c.lost_arrow.ensures
