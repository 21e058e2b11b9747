use Rattle.std.proofs.Common.{◌≡◌, ◌∙◌, [], sym, ap, map, drop}
use Rattle.std.specs.Map.Iter.{deref_pair}
use Rattle.std.proofs.lemmas.Map.Iter.{rest_all}
use Rattle.serde_json.specs.View.{members_view}
use Rattle.sup_wire.specs.FieldReads.{are_keys}
use Rattle.sup_wire.proofs.Keys.{are_keys-end}
use Rattle.sup_wire.proofs.reading.fields.are_keys.Goals as goal

pub returns : goal.returns
returns c =
    let done : c.loop-key.key-iterator ≡ [] = rest_all deref_pair _ _ _ c.in-None.is c.next.ensures.steps in
    are_keys-end (λ name. name.now) c.args.names.now c.loop-key.next c.loop-key.invariant.within
    ∙ ap (λ es. are_keys (map (λ name. name.now) (drop c.loop-key.next c.args.names.now)) (members_view es)) (sym done)
    ∙ c.loop-key.invariant.same
