use Rattle.std.proofs.Common.{◌≡◌, None}
use Rattle.std.specs.BTreeMap.{get}
use Rattle.sup_causal.specs.Merge.{IsMergeAt, last_at}
use Rattle.sup_causal.proofs.Walk.{Passes}
use Rattle.sup_causal.proofs.merge.merged_pairs.Given as goal

abbrev pub invariant-loop-key : goal.invariant-loop-key
invariant-loop-key g l =
    let left = get g.K.Ord.cmp l.fn.left in
    let right = get g.K.Ord.cmp l.fn.right in
    let out = last_at g.K.Ord.cmp l.pairs.items in
    (q : _) → Passes g.K.Ord.cmp left right l.key-iterator.left l.key-iterator.right (IsMergeAt (g.M.Merge.gives l.fn.by q) (left q) (right q) (out q)) (out q ≡ None) q
