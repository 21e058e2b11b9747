use Rattle.std.proofs.Common.{◌∷◌, ◌++◌, [], map, drop, refl, sym, ap, ◌∙◌}
use Rattle.sup_edits.specs.declared.edit.Edit.{Edit}
use Rattle.sup_edits.specs.Edits.{edited, edit_of}
use Rattle.sup_tables.specs.declared.lent.LentRow.{LentRow}
use Rattle.sup_tables.specs.Lent.{row_lent}
use Rattle.sup_tables.specs.Rows.{place_cmp}
use Rattle.sup_wire.specs.RowTexts.{row_text}
use Rattle.sup_image_text.proofs.EditTexts.{came, went}
use Rattle.sup_image_text.proofs.editing.with_edit.Goals as goal

pub returns-in_ok-more-in-Comes-clause-items : goal.returns-in_ok-more-in-Comes-clause-items
returns-in_ok-more-in-Comes-clause-items c rows es are =
    let at = c.in_ok-at-in-Comes in
    let q = row_lent c.in-Comes.row in
    came rows c.args.texts.now.items c.args.made.items _ (row_text q ∷ []) _ q es c.args.next at.at are (at.ensures.before rows are) (at.ensures.after rows are) (ap (λ b. b.items) c.in_ok-before-in-Comes.ensures) refl (ap (λ b. b.items) c.in_ok-more-in-Comes.ensures.items)
    ∙ ap (λ (e : Edit LentRow). c.args.made.items ++ map row_text (edited place_cmp (edit_of row_lent e ∷ es) (drop c.args.next rows))) (sym c.in-Comes.is)

pub returns-in_ok-more-in-Goes-clause-items : goal.returns-in_ok-more-in-Goes-clause-items
returns-in_ok-more-in-Goes-clause-items c rows es are =
    let at = c.in_ok-at-in-Goes in
    went rows c.args.texts.now.items c.args.made.items _ (row_lent c.in-Goes.row) es c.args.next at.at _ are (at.ensures.before rows are) (at.ensures.after rows are) (ap (λ b. b.items) c.in_ok-more-in-Goes.ensures) (c.past.ensures.past rows are)
    ∙ ap (λ (e : Edit LentRow). c.args.made.items ++ map row_text (edited place_cmp (edit_of row_lent e ∷ es) (drop c.args.next rows))) (sym c.in-Goes.is)
