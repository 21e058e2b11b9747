use Rattle.std.proofs.Common.{◌≡◌, ◌||◌, take}
use Rattle.sup_causal.specs.Cut.{in_runs}
use Rattle.sup_causal.specs.declared.dot.Dot.{Dot}
use Rattle.sup_causal.specs.Parts.{IsVersions, in_vector}
use Rattle.sup_causal.proofs.entries.lift.Given as goal

abbrev pub invariant-loop-node : goal.invariant-loop-node
invariant-loop-node l =
    IsVersions l.vector.items × ((d : Dot) → in_vector l.vector.items d ≡ (in_vector l.fn.vector.items d || in_runs (take l.node-index l.others) d))
