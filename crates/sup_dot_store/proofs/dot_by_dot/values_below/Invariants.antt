use Rattle.sup_causal.specs.Dots.{dot_cmp}
use Rattle.sup_dot_store.specs.ByDot.{at_dot}
use Rattle.sup_causal.specs.Merge.{IsBelowAt}
use Rattle.sup_causal.proofs.Walk.{Passes}
use Rattle.sup_dot_store.proofs.dot_by_dot.values_below.Given as goal

abbrev pub invariant-loop-dot : goal.invariant-loop-dot
invariant-loop-dot g l =
    let left = at_dot l.fn.left in
    let right = at_dot l.fn.right in
    (q : _) → Passes dot_cmp left right l.dot-iterator.left l.dot-iterator.right (IsBelowAt (g.M.Below.is_below l.fn.by q) (left q) (right q)) (Unit {0}) q
