use Rattle.std.specs.Prelude.{◌≡◌, true, Ok, Result}
use Rattle.std.proofs.Common.{sym, arith, subst}
use Rattle.sup_tables.specs.States.{State}
use Rattle.sup_local_sup.specs.Planning.{restarted}
use Rattle.sup_local_sup.specs.declared.leaving.Ruling.TheVariants.{Restart}
use Rattle.sup_replica.specs.declared.done.Reply.TheVariants.{Restarted}
use Rattle.sup_replica.specs.declared.refusal.Refusal.{Refusal}
use Rattle.sup_replica.specs.Nodes.{Node}
use Rattle.sup_replica.specs.ByTables.{by_tables}
use Rattle.sup_replica.specs.Steps.{exit_step}
use Rattle.sup_node.specs.declared.change.Change.TheVariants.{Begins}
use Rattle.sup_node.specs.declared.change.Ready.{Ready}
use Rattle.sup_node.specs.Changes.{ReadiesOutcome}
use Rattle.sup_node.specs.Placed.{keeps_placed}
use Rattle.sup_node.proofs.StepLaws.{begun_ready, within_greatest}
use Rattle.sup_node.proofs.replica.Replica.begin_again.Goals as goal

pub returns-in-Ok-clause-ready : goal.returns-in-Ok-clause-ready
returns-in-Ok-clause-ready c = λ w keeps.
    let n : Node State = record { name = c.self.inside.name; known = c.self.inside.tables; up = true; count = c.self.inside.count; supervisor = c.self.inside.supervisor; newest = c.self.inside.newest } in
    let again : Node State = record n { supervisor = restarted n.supervisor c.args.id.now c.args.now } in
    let ready : Result Ready Refusal = Ok (record { reply = Restarted; effects = c.in-Ok.effects; change = Begins c.in_ok-again.again c.args.now }) in
    subst (λ (m : Node State). ReadiesOutcome w (exit_step by_tables w m c.args.id.now c.args.now Restart) m ready) c.self.view_is
    (begun_ready w n c.args.id.now c.in_ok-again.again c.args.now c.in-Ok.effects c.in_ok-again.ensures c.in-Ok.ensures.effects
    (within_greatest again c.self.inside.counted (omega (arith, c.in-Ok.ensures.within)) c.self.inside.booted)
    (subst (λ (m : Node State). keeps_placed w m ≡ true) (sym c.self.view_is) keeps))
