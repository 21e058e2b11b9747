-- The dots that replies tell.
use Rattle.sup_model.proofs.RunLaws.{replies_tell_dots}
use Rattle.sup_model.proofs.laws.replies_tell_dots.Goals as goal

pub returns : goal.returns
returns c = replies_tell_dots
