use Rattle.std.proofs.Common.{codes, [], ◌∷◌}
use Rattle.std.proofs.lemmas.Result.{on_ok_weaker}
use Rattle.json.specs.Token.{begin_object, end_object, key}
use Rattle.serde_json.specs.Data.{object}
use Rattle.sup_wire.specs.Forms.{dot_value, vector_members}
use Rattle.sup_wire.specs.Writing.{parts_lent, AddsTokens, tokens_of, array_of}
use Rattle.sup_wire.proofs.Adding.{adds_one, adds_then}
use Rattle.sup_wire.proofs.writing.context.write_context.Goals as goal

pub returns-clause-adds : goal.returns-clause-adds
returns-clause-adds c =
    let t = parts_lent c.args.parts.now in
    let cloud : AddsTokens c.key.new.self c.write_cloud.new.out (tokens_of (array_of dot_value t.cloud)) = rw (← c.deref.ensures.value) c.in_ok-write_cloud.ensures.adds in
    let vector : AddsTokens c.key-2.new.self c.write_vector.new.out (tokens_of (object (vector_members t.vector))) = rw (← c.deref-2.ensures.value) c.in_ok-write_vector.ensures.adds in
    on_ok_weaker c.end_object.result (λ last.
    adds_then _ _ _ (begin_object ∷ []) _ (adds_one c.args.out.now c.begin_object.new.self begin_object c.in_ok-begin_object.ensures.room.0 c.in_ok-begin_object.ensures.ok)
    (adds_then _ _ _ (key (codes "cloud") ∷ []) _ (adds_one c.begin_object.new.self c.key.new.self (key (codes "cloud")) c.in_ok-key.ensures.room.0 c.in_ok-key.ensures.ok)
    (adds_then _ _ _ (tokens_of (array_of dot_value t.cloud)) _ cloud
    (adds_then _ _ _ (key (codes "vector") ∷ []) _ (adds_one c.write_cloud.new.out c.key-2.new.self (key (codes "vector")) c.in_ok-key-2.ensures.room.0 c.in_ok-key-2.ensures.ok)
    (adds_then _ _ _ (tokens_of (object (vector_members t.vector))) (end_object ∷ []) vector
    (adds_one c.write_vector.new.out c.end_object.new.self end_object c.end_object.ensures.room.0 last)))))) c.end_object.ensures.ok
