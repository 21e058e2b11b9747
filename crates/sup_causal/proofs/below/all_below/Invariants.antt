use Rattle.std.specs.BTreeMap.{get}
use Rattle.sup_causal.specs.Merge.{IsBelowAt}
use Rattle.sup_causal.proofs.Walk.{Passes}
use Rattle.sup_causal.proofs.below.all_below.Given as goal

abbrev pub invariant-loop-key : goal.invariant-loop-key
invariant-loop-key g l =
    let left = get g.K.Ord.cmp l.fn.left in
    let right = get g.K.Ord.cmp l.fn.right in
    (q : _) → Passes g.K.Ord.cmp left right l.key-iterator.left l.key-iterator.right (IsBelowAt (g.M.Below.is_below l.fn.by q) (left q) (right q)) (Unit {0}) q
