use Rattle.std.proofs.Common.{length}
use Rattle.sup_plan.proofs.checking.+are_single.Given as goal

abbrev pub decreases-are_single : goal.decreases-are_single
decreases-are_single l = length l.scripts.now
