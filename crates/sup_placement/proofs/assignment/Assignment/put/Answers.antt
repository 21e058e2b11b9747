use Rattle.std.proofs.Common.{◌≡◌, ◌||◌, sym, ◌∙◌}
use Rattle.std.specs.Str.{bytes_eq}
use Rattle.sup_placement.specs.Place.{place}
use Rattle.sup_placement.specs.Assigned.{is_there}
use Rattle.sup_placement.proofs.ThereLaws.{put_there, put_placed}
use Rattle.sup_placement.proofs.assignment.Assignment.put.Goals as goal

pub invariant_of-self-2 : goal.invariant_of-self-2
invariant_of-self-2 g c q =
    let weight = g.W.Weigh.weight_of in
    let runner = c.place-runner.ensures.value ∙ (λ j. place weight (c.deref.ensures.value j) (sym c.in_ok-id.ensures j)) in
    put_placed weight c.self.inside.members.items c.in_ok-id.id q c.place-runner.result c.self.inside.places.entries c.insert.new.self.entries runner (c.in_ok-insert.ensures.updates.0 q) (c.self.invariant q)

pub returns-clause-there : goal.returns-clause-there
returns-clause-there g c q =
    put_there c.in_ok-id.id q c.place-runner.result c.self.inside.places.entries c.insert.new.self.entries (c.in_ok-insert.ensures.updates.0 q)
    ∙ (λ j. bytes_eq (c.in_ok-id.ensures j) q || is_there (c.self.view_is j) q)
