use Rattle.sup_causal.specs.Dots.{dot_cmp}
use Rattle.sup_dot_store.specs.ByDot.{at_dot}
use Rattle.std.proofs.Common.{◌≡◌, None}
use Rattle.sup_causal.specs.Merge.{IsMergeAt}
use Rattle.sup_causal.proofs.Walk.{Passes}
use Rattle.sup_dot_store.proofs.dot_by_dot.merge_values.Given as goal

abbrev pub invariant-loop-dot : goal.invariant-loop-dot
invariant-loop-dot g l =
    let left = at_dot l.fn.left in
    let right = at_dot l.fn.right in
    let out = at_dot l.out in
    (q : _) → Passes dot_cmp left right l.dot-iterator.left l.dot-iterator.right (IsMergeAt (g.M.Merge.gives l.fn.by q) (left q) (right q) (out q)) (out q ≡ None) q
