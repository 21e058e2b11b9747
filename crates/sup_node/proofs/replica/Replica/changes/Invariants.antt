use Rattle.std.specs.Prelude.{◌≡◌, map, take}
use Rattle.sup_tables.specs.States.{State}
use Rattle.sup_tables.specs.Planned.{IsPlanFor}
use Rattle.sup_local_sup.specs.Keeping.{AreCounted}
use Rattle.sup_local_sup.specs.Changing.{news}
use Rattle.sup_node.specs.Placed.{change_of}
use Rattle.sup_node.proofs.replica.Replica.changes.Given as goal

abbrev pub invariant-loop-id : goal.invariant-loop-id
invariant-loop-id g l =
    ((new : State) → IsPlanFor l.plan l.self.known new → l.changes.items ≡ map (change_of g.W.Weigh.weight_of l.self.name l.hosts new.rows) (take l.id-index l.ids))
    × ((new : State) → IsPlanFor l.plan l.self.known new → AreCounted (news l.changes.items))
