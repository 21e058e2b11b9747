use Rattle.std.proofs.Common.{◌+◌, ◌∷◌, drop, sym, ap, ◌∙◌}
use Rattle.std.proofs.lemmas.List.{drop_more}
use Rattle.serde_json.specs.View.{view, items_view}
use Rattle.sup_wire.specs.RowReads.{row_at, each_in, after}
use Rattle.sup_wire.proofs.ListLaws.{one_read}
use Rattle.sup_wire.proofs.reading.rows.each_row.Goals as goal

pub loop-value-preserved : goal.loop-value-preserved
loop-value-preserved c =
    let i = c.loop-value.value-index in
    let values = c.args.values.now in
    let value = c.value-item.result in
    let rows = c.loop-value.rows.items in
    let read = row_at c.args.version in
    rw c.in_ok-push.ensures.items (
    one_read read rows c.in_ok-row.row (view value) (items_view (drop (i + 1) values)) c.in_ok-row.ensures
    ∙ ap (λ vs. after rows (each_in read (items_view vs))) (sym (drop_more values i value c.loop-value-test.true ∙ ap (λ v. v ∷ drop (i + 1) values) (sym c.value-item.is)))
    ∙ c.loop-value.invariant)
