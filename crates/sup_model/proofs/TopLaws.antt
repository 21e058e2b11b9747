-- A known dot is no greater than the greatest; and what covering is, as operations that are alike.
use Rattle.std.specs.Prelude.{◌≡◌, ◌≤◌, true, List, ◌++◌}
use Rattle.std.proofs.Common.{sym}
use Rattle.sup_causal.specs.declared.dot.Dot.{Dot}
use Rattle.sup_tables.specs.Operations.{Operation, known, OperationsCover, greatest}
use Rattle.sup_tables.proofs.GreatestLaws.{greatest_is}
use Rattle.sup_model.specs.Laws.{OperationsAlike}

-- a known dot is no greater than the greatest
pub known-greatest : (ops : List Operation) (d : Dot) → known ops d ≡ true → d.counter ≤ greatest ops d.node
known-greatest ops d e = (greatest_is ops d.node).bound d (λ i. d.node) e

-- what covers another list is alike with it behind
pub alike_of_Covers : (ops others : List Operation) → OperationsCover ops others → OperationsAlike ops (ops ++ others)
alike_of_Covers ops others c = record { dots = λ d. sym (c.known_stays d); rows = sym c.live_stays }

pub Covers_of_alike : (ops others : List Operation) → OperationsAlike (ops ++ others) ops → OperationsCover ops others
Covers_of_alike ops others a = record { known_stays = a.dots; live_stays = a.rows }
