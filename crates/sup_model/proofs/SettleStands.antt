-- Settling, over the model's operations: what one ship of settling does, and what all do.
use Rattle.std.specs.Prelude.{List, [], ◌∷◌, ◌++◌}
use Rattle.sup_tables.specs.Operations.{OperationsCover}
use Rattle.sup_model.specs.Worlds.{Ops}
use Rattle.sup_anti_entropy.specs.Joins.{joined}
use Rattle.sup_anti_entropy.specs.Settling.{TookIn, GathersOthers, SpreadsToOthers, AllStatesAlike}
use Rattle.sup_anti_entropy.proofs.SettleLaws.{settled}
use Rattle.sup_model.specs.Laws.{OperationsAlike}
use Rattle.sup_model.proofs.OperationJoins.{operation_joins, covers_alike}

-- a ship that was delivered, Absorbed or Known
pub took_delivery : (ops others : Ops) → TookIn operation_joins ops others (ops ++ others)
unfolding operation_joins
took_delivery ops others = record { more = operation_joins.left ops others; has = operation_joins.right ops others; only = operation_joins.itself (ops ++ others) }

-- a ship that was up to date
pub took_nothing : (ops others : Ops) → OperationsCover ops others → TookIn operation_joins ops others ops
unfolding operation_joins
took_nothing ops others c = record { more = operation_joins.itself ops; has = c; only = operation_joins.left ops others }

-- all of the lists, one behind another
abbrev pub all_of : List Ops → Ops
all_of = joined (λ a b. a ++ b) []

-- after settling the first and each other are alike with all together
pub settled_alike : (x x' : Ops) (ys zs : List Ops) → GathersOthers operation_joins x ys x' → SpreadsToOthers operation_joins x' ys zs → OperationsAlike x' (all_of (x ∷ ys)) × AllStatesAlike operation_joins (all_of (x ∷ ys)) zs
unfolding operation_joins
settled_alike x x' ys zs g s =
    let r = settled operation_joins x x' ys zs g s in
    (covers_alike x' (all_of (x ∷ ys)) r.0.0 r.0.1, r.1)
