use Rattle.std.proofs.Common.{List, ◌++◌, map, ap, ap₂, ◌∙◌}
use Rattle.sup_specs.specs.Values.{Bytes}
use Rattle.sup_array_text.specs.Arrays.{shown, whole}
use Rattle.sup_tables.specs.Lent.{rows_lent}
use Rattle.sup_wire.specs.RowTexts.{row_text}
use Rattle.sup_wire.specs.ImageTexts.{image_back}
use Rattle.sup_image_text.proofs.writing.written.Goals as goal

pub returns-clause-text : goal.returns-clause-text
returns-clause-text c =
    let front = c.in_ok-made.ensures.front ∙ ap (λ b. b.front) c.in_ok-begun.ensures in
    let items = c.in_ok-made.ensures.items ∙ ap (λ b. b.items ++ map row_text (rows_lent c.args.rows.now)) c.in_ok-begun.ensures in
    c.in_ok-text.ensures ∙ ap₂ (λ f (ps : List Bytes). shown (whole f ps image_back) ps) front items
