use Rattle.std.proofs.Common.{sym, ap, ◌∙◌, subst}
use Rattle.std.specs.BTreeMap.{keys}
use Rattle.std.proofs.lemmas.Map.Keys.{IsDistinct-from_sorted}
use Rattle.std.specs.List.Sorted.{IsStrictlySortedBy}
use Rattle.sup_dot_store.specs.Index.{row_value}
use Rattle.sup_dot_store.specs.RowLists.{row_cmp}
use Rattle.sup_dot_store.proofs.RowListLaws.{rows_rise}
use Rattle.sup_dot_store.proofs.RowValues.{row_value_is}
use Rattle.sup_dot_store.proofs.dot_map.DotMap+K+DotFun+V.rows.Goals as goal

pub returns-clause-rising : goal.returns-clause-rising
returns-clause-rising g c = subst (IsStrictlySortedBy (row_cmp g.K.Ord.cmp)) (sym c.in_ok-rows.ensures) (rows_rise g.met.K.Ord.total c.args.self.now.stores.entries c.args.self.now.ordered)

pub returns-clause-values : goal.returns-clause-values
returns-clause-values g c k d =
    let m = c.args.self.now.stores in
    ap (λ rows. row_value g.K.Ord.cmp rows k d) c.in_ok-rows.ensures ∙ row_value_is g.met.K.Ord.total k d m.entries (IsDistinct-from_sorted g.K.Ord.cmp (keys m) c.args.self.now.ordered)
