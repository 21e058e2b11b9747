use Rattle.sup_supd.proofs.node.refuse.Goals as goal

pub returns-in-BadImage : goal.returns-in-BadImage
returns-in-BadImage g c = rw c.in-BadImage.is (c.finish.ensures.status, c.finish.ensures.told)

pub returns-in-OthersImage : goal.returns-in-OthersImage
returns-in-OthersImage g c = rw c.in-OthersImage.is (c.bad_image.ensures.status, c.bad_image.ensures.told)
