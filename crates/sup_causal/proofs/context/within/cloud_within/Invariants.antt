use Rattle.std.proofs.Common.{◌≡◌, true, take}
use Rattle.std.specs.Prelude.{All}
use Rattle.sup_causal.specs.Dots.{has}
use Rattle.sup_causal.proofs.context.within.cloud_within.Given as goal

abbrev pub invariant-loop-dot : goal.invariant-loop-dot
invariant-loop-dot l = All (λ d. has l.other d ≡ true) (take l.dot-index l.dots)
