use Rattle.std.proofs.Common.{◌≡◌, ◌+◌, List, ◌∷◌, ◌++◌, map, drop, sym, subst, ap, ap₂, ◌∙◌}
use Rattle.std.specs.List.{AllByRecursion}
use Rattle.std.proofs.lemmas.List.{drop_more}
use Rattle.sup_specs.specs.Values.{Bytes}
use Rattle.sup_edits.specs.Edits.{edited, edit_of, IsComing}
use Rattle.sup_array_text.specs.Arrays.{shown, whole}
use Rattle.sup_tables.specs.Rows.{place_cmp}
use Rattle.sup_tables.specs.Lent.{row_lent}
use Rattle.sup_wire.specs.Forms.{IsWritten}
use Rattle.sup_wire.specs.RowTexts.{row_text}
use Rattle.sup_wire.specs.ImageTexts.{image_back}
use Rattle.sup_image_text.proofs.EditTexts.{last_run}
use Rattle.sup_image_text.proofs.editing.edited.Goals as goal

pub loop-edit-preserved : goal.loop-edit-preserved
loop-edit-preserved c =
    let es = c.args.edits.now in
    let i = c.loop-edit.edit-index in
    let more : drop i es ≡ c.edit-item.result ∷ drop (i + 1) es = drop_more es i c.edit-item.result c.loop-edit-test.true ∙ ap (λ e. e ∷ drop (i + 1) es) (sym c.edit-item.is) in
    record {
      within = c.in_ok-more.ensures.within;
      front = c.in_ok-more.ensures.front ∙ c.loop-edit.invariant.front;
      written = λ all. c.loop-edit.invariant.written (subst (λ xs. AllByRecursion (IsComing IsWritten) (map (edit_of row_lent) xs)) (sym more) (c.in_ok-more.ensures.written, all));
      items = λ rows are.
          c.in_ok-more.ensures.items rows (map (edit_of row_lent) (drop (i + 1) es)) are
          ∙ ap (λ xs. c.loop-edit.made.items ++ map row_text (edited place_cmp (map (edit_of row_lent) xs) (drop c.loop-edit.next rows))) (sym more)
          ∙ c.loop-edit.invariant.items rows are;
    }

pub returns-clause-text : goal.returns-clause-text
returns-clause-text c rows are =
    let want = map row_text (edited place_cmp (map (edit_of row_lent) c.args.edits.now) rows) in
    let all : c.in_ok-all.all.items ≡ want =
    last_run (edit_of row_lent) rows c.args.texts.now.items c.loop-edit.made.items c.in_ok-all.all.items c.args.edits.now c.loop-edit.edit-index c.loop-edit.next c.count-2.result want are
    c.loop-edit-test.false c.count-2.ensures (ap (λ b. b.items) c.in_ok-all.ensures) (c.loop-edit.invariant.items rows are) in
    let front : c.in_ok-all.all.front ≡ c.args.front.now = ap (λ b. b.front) c.in_ok-all.ensures ∙ c.loop-edit.invariant.front ∙ ap (λ b. b.front) c.in_ok-made.ensures in
    c.in_ok-text.ensures ∙ ap₂ (λ f (ps : List Bytes). shown (whole f ps image_back) ps) front all
