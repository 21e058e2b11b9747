use Rattle.std.proofs.Common.{◌≡◌, cond, Some, None, sym, ap, subst, ◌∙◌}
use Rattle.std.specs.Option.{is_some}
use Rattle.std.specs.Str.{bytes_eq}
use Rattle.std.specs.Map.{lookup}
use Rattle.sup_placement.specs.Place.{place}
use Rattle.sup_placement.specs.Assigned.{at, IsPlaced}
use Rattle.sup_placement.proofs.ThereLaws.{by_bytes, there}
use Rattle.sup_placement.proofs.assignment.Assignment.at.Goals as goal

pub returns-in-Some : goal.returns-in-Some
returns-in-Some g c =
    let es = c.self.inside.places.entries in
    let id = c.args.id.now in
    let members = c.self.inside.members.items in
    let found : lookup (bytes_eq id) es ≡ Some c.in-Some.runner.now = sym (by_bytes id es) ∙ sym c.in-Some.ensures.value in
    let runner = subst (IsPlaced g.W.Weigh.weight_of members id) found (c.self.invariant id) in
    runner
    ∙ ap (λ b. cond b (place g.W.Weigh.weight_of members id) None) (sym (there (bytes_eq id) es ∙ ap is_some found))
    ∙ ap (λ a. at g.W.Weigh.weight_of a id) c.self.view_is

pub returns-in-None : goal.returns-in-None
returns-in-None g c =
    let es = c.self.inside.places.entries in
    let id = c.args.id.now in
    let found = sym (by_bytes id es) ∙ sym c.in-None.ensures.value in
    ap (λ b. cond b (place g.W.Weigh.weight_of c.self.inside.members.items id) None) (sym (there (bytes_eq id) es ∙ ap is_some found))
    ∙ ap (λ a. at g.W.Weigh.weight_of a id) c.self.view_is
