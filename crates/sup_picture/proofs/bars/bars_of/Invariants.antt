use Rattle.std.proofs.Common.{◌≡◌, ◌++◌, length}
use Rattle.sup_picture.specs.Turns.{bars_of}
use Rattle.sup_picture.proofs.bars.bars_of.Given as goal

abbrev pub invariant-loop-rest : goal.invariant-loop-rest
invariant-loop-rest l = l.bars.items ++ bars_of l.rest ≡ bars_of l.fn.changes

abbrev pub decreases-loop-rest : goal.decreases-loop-rest
decreases-loop-rest l = length l.rest
