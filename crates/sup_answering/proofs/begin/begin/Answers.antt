use Rattle.std.proofs.Common.{◌≡◌, false, true}
use Rattle.sup_answering.specs.BegunNodes.{FailsAtSave, IsUnkept}
use Rattle.sup_answering.proofs.UnbegunNodeLaws.{asked_first}
use Rattle.sup_answering.proofs.begin.begin.Goals as goal

pub returns-else-is_new-clause-order : goal.returns-else-is_new-clause-order
returns-else-is_new-clause-order g c =
    asked_first (λ u. g.K.Keeper.readable c.args.keeper ≡ true → IsUnkept u.fault → FailsAtSave g.W.Weigh.weight_of c.args.name c.args.config (g.K.Keeper.kept c.args.keeper)) (c.args.is_new ≡ false) c.go_on.result c.go_on.ensures.order
