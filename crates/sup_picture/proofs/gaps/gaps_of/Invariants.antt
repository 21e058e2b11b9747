use Rattle.std.proofs.Common.{◌≡◌, ◌++◌, length}
use Rattle.sup_picture.specs.Turns.{gaps_of}
use Rattle.sup_picture.proofs.gaps.gaps_of.Given as goal

abbrev pub invariant-loop-rest : goal.invariant-loop-rest
invariant-loop-rest l = l.gaps.items ++ gaps_of l.rest ≡ gaps_of l.fn.changes

abbrev pub decreases-loop-rest : goal.decreases-loop-rest
decreases-loop-rest l = length l.rest
