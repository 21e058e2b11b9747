use Rattle.std.proofs.Common.{arith, rules, ◌≡◌, ◌↔◌, IfSome, List, [], Some, None, Option, refl, sym, ap}
use Rattle.std.proofs.lemmas.Grind.{common_steps}
use Rattle.std.proofs.lemmas.Option.{IfSome_then}
use Rattle.std.specs.Prelude.{IsNone}
use Rattle.sup_specs.specs.Values.{Bytes}
use Rattle.sup_placement.specs.Place.{Weigher, place}
use Rattle.sup_placement.proofs.PlaceLaws.{IsFirst, place_from_first, value_from_first}
use Rattle.sup_placement.proofs.rendezvous.place.Goals as goal

value : (weight : Weigher) (members : List Bytes) (id : Bytes) (r : Option Bytes) → IfSome r (IsFirst weight members id) → IsNone r ↔ members ≡ [] → r ≡ place weight members id
value weight members id (Some m) first none = sym (value_from_first weight members id m first)
value weight members id None first none = sym (ap (λ ms. place weight ms id) (none.0 refl))

pub returns-clause-chosen : goal.returns-clause-chosen
returns-clause-chosen g c =
    let first : IfSome c.copied.result (IsFirst g.W.Weigh.weight_of c.args.members.now c.args.id.now) = search rules in
    IfSome_then c.copied.result first (place_from_first g.W.Weigh.weight_of c.args.members.now c.args.id.now)

pub returns-clause-value : goal.returns-clause-value
returns-clause-value g c =
    let first : IfSome c.copied.result (IsFirst g.W.Weigh.weight_of c.args.members.now c.args.id.now) = search rules in
    let none : IsNone c.copied.result ↔ c.args.members.now ≡ [] = grind (arith, common_steps) in
    value g.W.Weigh.weight_of c.args.members.now c.args.id.now c.copied.result first none
