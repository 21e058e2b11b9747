use Rattle.std.specs.Prelude.{true, None}
use Rattle.std.proofs.Common.{sym, ap, ◌∙◌}
use Rattle.sup_tables.specs.States.{State}
use Rattle.sup_replica.specs.Nodes.{Node, wanted_at}
use Rattle.sup_node.proofs.StepLaws.{restarted_keeps}
use Rattle.sup_node.proofs.replica.Replica.restarted.Goals as goal

pub returns-in-Ok-clause-keeps : goal.returns-in-Ok-clause-keeps
returns-in-Ok-clause-keeps g c =
    let n : Node State = record { name = c.args.image.node; known = c.index_rows.new.self; up = true; count = c.args.image.count; supervisor = c.carry_out-effects.new.self; newest = None } in
    restarted_keeps g.W.Weigh.weight_of n c.in_ok-supervisor.supervisor c.in-Ok.plan c.deref.result.now c.in_ok-wanted.wanted.items c.carry_out-effects.ensures.becomes c.in-Ok.ensures.plan c.deref.ensures.value
    (c.in_ok-wanted.ensures.items ∙ ap (λ (t : State). wanted_at g.W.Weigh.weight_of c.args.image.node t.rows) (sym c.index_rows.ensures))
