use Rattle.std.specs.BTreeMap.{is_at}
use Rattle.sup_dot_store.proofs.RowRuns.{each_has_row}
use Rattle.sup_dot_store.proofs.dot_map.DotMap+K+DotFun+V.of_rows.Goals as goal

pub invariant_of-result : goal.invariant_of-result
invariant_of-result g c = record {
  ordered = c.keys_rise.ensures;
  none_empty = λ k s found. each_has_row (is_at (g.K.Ord.cmp k)) c.in_ok-stores.stores.entries s c.in_ok-stores.ensures.some found;
}
