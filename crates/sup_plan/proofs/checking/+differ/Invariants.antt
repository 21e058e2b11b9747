use Rattle.std.proofs.Common.{length}
use Rattle.sup_plan.proofs.checking.+differ.Given as goal

abbrev pub decreases-differ : goal.decreases-differ
decreases-differ l = length l.names.now
