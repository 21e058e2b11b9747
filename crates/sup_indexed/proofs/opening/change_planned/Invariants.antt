use Rattle.std.proofs.Common.{◌≡◌, length}
use Rattle.std.specs.BTreeMap.{get}
use Rattle.sup_dot_store.specs.Index.{value_under}
use Rattle.sup_indexed.specs.Changed.{IsReady}
use Rattle.sup_indexed.proofs.Plans.{IsPart}
use Rattle.sup_indexed.proofs.opening.change_planned.Given as goal

abbrev pub invariant-loop-key : goal.invariant-loop-key
invariant-loop-key g l = record {
  same : (k : _) (d : _) → value_under g.K.Ord.cmp l.changing.stores k d ≡ value_under g.K.Ord.cmp l.fn.changing.stores k d;
  ready : IsReady g.K.Ord.cmp l.changing.stores l.changing.index l.changing.changed;
  part : (k : _) → IsPart (get g.K.Ord.cmp l.left k) (get g.K.Ord.cmp l.changing.changed k) (get g.K.Ord.cmp l.fn.planned k);
}

abbrev pub decreases-loop-key : goal.decreases-loop-key
decreases-loop-key g l = length l.left.entries
