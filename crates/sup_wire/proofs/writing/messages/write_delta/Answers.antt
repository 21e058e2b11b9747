use Rattle.std.proofs.Common.{codes, [], ◌∷◌, ◌++◌}
use Rattle.std.proofs.lemmas.Result.{on_ok_weaker}
use Rattle.json.specs.Token.{begin_object, key}
use Rattle.serde_json.specs.Data.{string}
use Rattle.sup_wire.specs.declared.version.Version.TheVariants.{Two}
use Rattle.sup_wire.specs.Forms.{context_value, rows_value, count_value}
use Rattle.sup_wire.specs.Writing.{tokens_of, field_tokens, parts_lent}
use Rattle.sup_wire.proofs.Adding.{adds_one, adds_then}
use Rattle.sup_wire.proofs.writing.messages.write_delta.Goals as goal

pub returns-clause-adds : goal.returns-clause-adds
returns-clause-adds c =
    let p = parts_lent c.args.parts.now in
    on_ok_weaker c.last_fields.result (λ last.
    adds_then _ _ _ (begin_object ∷ []) _ (adds_one c.args.out.now c.begin_object.new.self begin_object c.in_ok-begin_object.ensures.room.0 c.in_ok-begin_object.ensures.ok)
    (adds_then _ _ _ (key (codes "ctx") ∷ []) _ (adds_one c.begin_object.new.self c.key.new.self (key (codes "ctx")) c.in_ok-key.ensures.room.0 c.in_ok-key.ensures.ok)
    (adds_then _ _ _ (tokens_of (context_value p)) _ c.in_ok-write_context.ensures.adds
    (adds_then _ _ _ (field_tokens (codes "from") (string c.args.from.now) ++ field_tokens (codes "kind") (string (codes "delta"))) _ c.in_ok-sender_fields.ensures.adds
    (adds_then _ _ _ (field_tokens (codes "n") (count_value c.args.n)) _ c.in_ok-number_field.ensures
    (adds_then _ _ _ (key (codes "rows") ∷ []) _ (adds_one c.number_field.new.out c.key-2.new.self (key (codes "rows")) c.in_ok-key-2.ensures.room.0 c.in_ok-key-2.ensures.ok)
    (adds_then _ _ _ (tokens_of (rows_value Two p.rows)) _ c.in_ok-write_rows.ensures.adds last))))))) c.last_fields.ensures.adds
