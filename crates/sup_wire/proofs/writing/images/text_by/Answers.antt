use Rattle.std.proofs.Common.{◌≡◌, List, ◌∷◌, ◌++◌, [], drop, map, ap, ap₂, append_assoc, ◌∙◌}
use Rattle.sup_specs.specs.Values.{Bytes}
use Rattle.sup_array_text.specs.Arrays.{shown, whole, joined}
use Rattle.sup_wire.specs.RowTexts.{row_text}
use Rattle.sup_wire.specs.ImageTexts.{image_front, image_back}
use Rattle.sup_wire.specs.Writing.{parts_lent}
use Rattle.sup_wire.proofs.writing.images.text_by.Goals as goal

pub returns-clause-text : goal.returns-clause-text
returns-clause-text c =
    let p = parts_lent c.args.parts.now in
    let front = c.in_ok-made.ensures.front ∙ ap (λ b. b.front) c.in_ok-begun.ensures ∙ c.in_ok-front.ensures.text in
    let items = c.in_ok-made.ensures.items ∙ ap (λ b. b.items ++ map row_text p.rows) c.in_ok-begun.ensures in
    c.in_ok-text.ensures
    ∙ ap₂ (λ f (ps : List Bytes). shown (whole f ps image_back) ps) front items
    ∙ ap (λ text. shown text (map row_text p.rows)) (append_assoc c.args.front.items (image_front c.args.node.now c.args.boot c.args.count p) (91 ∷ (drop 1 (joined (map row_text p.rows)) ++ 93 ∷ image_back)))
