use Rattle.sup_links.specs.Ends.{SameOut}
use Rattle.sup_driving.proofs.field.Field.throw_away.Given as goal

abbrev pub invariant-loop : goal.invariant-loop
invariant-loop g l = (goal.iterator-loop g).can_next l.iterator' × (goal.iterator-loop g).is_finite l.iterator' × SameOut l.fn.exit l.exit
