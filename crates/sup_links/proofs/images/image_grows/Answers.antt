use Rattle.sup_links.proofs.ImageLaws.{image_one}
use Rattle.sup_links.proofs.images.image_grows.Goals as goal

pub returns : goal.returns
returns c = λ script sent m. image_one script sent m
