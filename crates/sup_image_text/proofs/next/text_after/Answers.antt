use Rattle.std.proofs.Common.{List, sym, subst}
use Rattle.sup_edits.specs.declared.edit.Edit.{Edit}
use Rattle.sup_tables.specs.declared.lent.LentRow.{LentRow}
use Rattle.sup_image_text.specs.declared.next_image.RowChange.{RowChange}
use Rattle.sup_image_text.specs.Next.{IsEdited, IsChanged}
use Rattle.sup_image_text.proofs.next.text_after.Goals as goal

pub returns-in_ok-text-in-Edits : goal.returns-in_ok-text-in-Edits
returns-in_ok-text-in-Edits c = λ old new was is.
    let rows : IsEdited old new.state.rows c.deref.result.now =
    subst (λ (es : List (Edit LentRow)). IsEdited old new.state.rows es) (sym c.deref.ensures.value) (subst (λ (r : RowChange). IsChanged old new.state.rows r) c.in-Edits.is is.rows) in
    c.in_ok-text-in-Edits.ensures old new was rows is.headed is.is_whole
