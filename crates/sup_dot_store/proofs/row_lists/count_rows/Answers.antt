use Rattle.std.proofs.Common.{◌≡◌, ◌+◌, ◌-◌, ◌^◌, [], length, min, sym, ◌∙◌, ap, arith, rules}
use Rattle.sup_dot_store.specs.RowLists.{rows_of}
use Rattle.sup_dot_store.proofs.row_lists.count_rows.Goals as goal

pub returns : goal.returns
returns g c =
    let done : c.loop-function.function-iterator ≡ [] = search rules in
    let counted : min (c.loop-function.count + 0) (2 ^ 64 - 1) ≡ min (length (rows_of c.args.stores.now.entries)) (2 ^ 64 - 1) =
    sym (ap (λ es. min (c.loop-function.count + length (rows_of es)) (2 ^ 64 - 1)) done) ∙ c.loop-function.invariant.1 in
    omega (arith, counted, c.loop-function.invariant.0)
