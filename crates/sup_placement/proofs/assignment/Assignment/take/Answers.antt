use Rattle.std.proofs.Common.{◌≡◌, not, ◌&&◌, ap, ◌∙◌}
use Rattle.std.specs.Str.{bytes_eq}
use Rattle.sup_placement.specs.Assigned.{AssignedChildren, is_there}
use Rattle.sup_placement.proofs.ThereLaws.{take_there, take_placed}
use Rattle.sup_placement.proofs.assignment.Assignment.take.Goals as goal

pub invariant_of-self : goal.invariant_of-self
invariant_of-self g c q =
    take_placed g.W.Weigh.weight_of c.self.inside.members.items c.args.id.now q c.self.inside.places.entries c.remove-gone.new.self.entries (c.remove-gone.ensures.updates.0 q) (c.self.invariant q)

pub returns-clause-there : goal.returns-clause-there
returns-clause-there g c q =
    take_there c.args.id.now q c.self.inside.places.entries c.remove-gone.new.self.entries (c.remove-gone.ensures.updates.0 q)
    ∙ ap (λ (a : AssignedChildren). not (bytes_eq c.args.id.now q) && is_there a q) c.self.view_is
