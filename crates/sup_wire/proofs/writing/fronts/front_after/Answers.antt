use Rattle.std.proofs.Common.{[], ◌∷◌, ◌++◌, codes, decimal, ap, append_assoc, ◌∙◌}
use Rattle.json.specs.Print.{quoted}
use Rattle.serde_json.specs.Written.{compact_text}
use Rattle.sup_wire.specs.Forms.{context_value}
use Rattle.sup_wire.specs.ImageTexts.{field_text, image_front}
use Rattle.sup_wire.specs.Writing.{parts_lent}
use Rattle.sup_wire.proofs.FrontLaws.{six}
use Rattle.sup_wire.proofs.writing.fronts.front_after.Goals as goal

pub returns-clause-text : goal.returns-clause-text
returns-clause-text c =
    let p = parts_lent c.args.parts.now in
    let ctx = field_text (codes "ctx") (compact_text (context_value p)) in
    let name = c.as_str.result.now in
    six c.in_ok-text.text.items c.in_ok-text-2.text.items c.in_ok-text-3.text.items c.in_ok-text-4.text.items c.in_ok-text-5.text.items c.in_ok-text-6.text.items c.in_ok-text-7.text.items
    (field_text (codes "boot") (decimal c.args.boot)) (field_text (codes "count") (decimal c.args.count)) ctx (field_text (codes "kind") (quoted (codes "image"))) (field_text (codes "node") (quoted name)) (quoted (codes "rows") ++ 58 ∷ [])
    c.in_ok-text-2.ensures c.in_ok-text-3.ensures c.in_ok-text-4.ensures.text c.in_ok-text-5.ensures c.in_ok-text-6.ensures c.in_ok-text-7.ensures
    ∙ ap (λ s. s ++ (field_text (codes "boot") (decimal c.args.boot) ++ (field_text (codes "count") (decimal c.args.count) ++ (ctx ++ (field_text (codes "kind") (quoted (codes "image")) ++ (field_text (codes "node") (quoted name) ++ (quoted (codes "rows") ++ 58 ∷ []))))))) c.in_ok-text.ensures
    ∙ append_assoc c.args.front.items (123 ∷ []) (field_text (codes "boot") (decimal c.args.boot) ++ (field_text (codes "count") (decimal c.args.count) ++ (ctx ++ (field_text (codes "kind") (quoted (codes "image")) ++ (field_text (codes "node") (quoted name) ++ (quoted (codes "rows") ++ 58 ∷ []))))))
    ∙ ap (λ n. c.args.front.items ++ image_front n c.args.boot c.args.count p) c.as_str.ensures.value
