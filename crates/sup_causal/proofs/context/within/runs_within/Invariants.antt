use Rattle.std.proofs.Common.{◌≤◌, take}
use Rattle.std.specs.Prelude.{All}
use Rattle.sup_causal.specs.Cut.{entry}
use Rattle.sup_causal.proofs.context.within.runs_within.Given as goal

abbrev pub invariant-loop-node : goal.invariant-loop-node
invariant-loop-node l = All (λ e. e.1 ≤ entry l.others e.0) (take l.node-index l.vector)
