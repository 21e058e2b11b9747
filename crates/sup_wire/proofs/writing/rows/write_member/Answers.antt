use Rattle.std.proofs.Common.{codes, [], ◌∷◌}
use Rattle.std.proofs.lemmas.Result.{on_ok_weaker}
use Rattle.json.specs.Token.{begin_array, end_array, string}
use Rattle.sup_wire.specs.declared.version.Version.TheVariants.{Two}
use Rattle.sup_wire.specs.Forms.{dot_value, info_value}
use Rattle.sup_wire.specs.Writing.{tokens_of}
use Rattle.sup_wire.proofs.Adding.{adds_one, adds_then}
use Rattle.sup_wire.proofs.writing.rows.write_member.Goals as goal

pub returns-clause-adds : goal.returns-clause-adds
returns-clause-adds c = on_ok_weaker c.end_array.result (λ last.
    adds_then _ _ _ (begin_array ∷ []) _ (adds_one c.args.out.now c.begin_array.new.self begin_array c.in_ok-begin_array.ensures.room.0 c.in_ok-begin_array.ensures.ok)
    (adds_then _ _ _ (string (codes "member") ∷ []) _ (adds_one c.begin_array.new.self c.string.new.self (string (codes "member")) c.in_ok-string.ensures.room.0 c.in_ok-string.ensures.ok)
    (adds_then _ _ _ (string c.args.node.now ∷ []) _ (adds_one c.string.new.self c.string-2.new.self (string c.args.node.now) c.in_ok-string-2.ensures.room.0 (rw (← c.as_str.ensures.value) c.in_ok-string-2.ensures.ok))
    (adds_then _ _ _ (tokens_of (dot_value c.args.dot.now)) _ c.in_ok-write_dot.ensures.adds
    (adds_then _ _ _ (tokens_of (info_value Two c.args.info.now)) (end_array ∷ []) c.in_ok-write_info.ensures.adds
    (adds_one c.write_info.new.out c.end_array.new.self end_array c.end_array.ensures.room.0 last)))))) c.end_array.ensures.ok
