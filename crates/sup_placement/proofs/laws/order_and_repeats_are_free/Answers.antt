use Rattle.sup_placement.proofs.MoveLaws.{order_and_repeats_are_free}
use Rattle.sup_placement.proofs.laws.order_and_repeats_are_free.Goals as goal

pub returns : goal.returns
returns c = order_and_repeats_are_free
