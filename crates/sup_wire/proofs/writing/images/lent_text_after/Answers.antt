use Rattle.sup_tables.specs.Lent.{rows_lent}
use Rattle.sup_tables.specs.States.{with_rows}
use Rattle.sup_wire.specs.Drafts.{IsCut}
use Rattle.sup_wire.specs.Writing.{parts_lent}
use Rattle.sup_wire.proofs.LentTexts.{lent_is, text_lent, lent_rows_are}
use Rattle.sup_wire.proofs.writing.images.lent_text_after.Goals as goal

pub returns-clause-text : goal.returns-clause-text
returns-clause-text c = λ i lent.
    let l = c.args.image.now in
    let s = with_rows l.context.now (rows_lent l.rows.items) in
    let p = parts_lent c.in_ok-parts.parts in
    let cut : IsCut s p = rw (← c.deref.ensures.value) c.in_ok-parts.ensures in
    text_lent l.node l.boot l.count s p c.counted.ensures cut c.in_ok-text.ensures.written c.text_by.ensures.boot c.text_by.ensures.count c.in_ok-text.ensures.name c.args.front.items c.in_ok-text.text c.in_ok-text.ensures.text i (lent_is l i lent)

pub returns-clause-rows : goal.returns-clause-rows
returns-clause-rows c = λ i lent.
    let l = c.args.image.now in
    let s = with_rows l.context.now (rows_lent l.rows.items) in
    let p = parts_lent c.in_ok-parts.parts in
    let cut : IsCut s p = rw (← c.deref.ensures.value) c.in_ok-parts.ensures in
    lent_rows_are l.node l.boot l.count s p c.counted.ensures cut c.in_ok-text.ensures.written c.text_by.ensures.boot c.text_by.ensures.count c.in_ok-text.ensures.name c.args.front.items c.in_ok-text.text c.in_ok-text.ensures.text i (lent_is l i lent)
