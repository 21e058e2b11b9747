use Rattle.std.proofs.Common.{◌≡◌, length}
use Rattle.sup_local_sup.specs.Supervising.{others}
use Rattle.sup_local_sup.proofs.late.remove_late.Given as goal

abbrev pub invariant-loop-at : goal.invariant-loop-at
invariant-loop-at l = others l.late l.id ≡ others l.fn.late l.id

abbrev pub decreases-loop-at : goal.decreases-loop-at
decreases-loop-at l = length l.late
