use Rattle.sup_supd.proofs.node.refuse_by.Goals as goal

pub returns-in-CountSpent : goal.returns-in-CountSpent
returns-in-CountSpent g c = rw c.in-CountSpent.is (c.bad_image.ensures.status, c.bad_image.ensures.told)
