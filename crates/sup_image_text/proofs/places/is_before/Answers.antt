use Rattle.std.proofs.Common.{IsUtf8, subst, sym, ap, ap₂, ◌∙◌, nat_cmp, is_lt}
use Rattle.std.specs.Ordering.{ordering_then}
use Rattle.std.specs.Cmp.Lexicographic.{slice_cmp}
use Rattle.sup_tables.specs.Rows.{table_of}
use Rattle.sup_wire.proofs.ImageTextLaws.{row_utf8}
use Rattle.sup_image_text.proofs.PlaceReads.{read_past, starts}
use Rattle.sup_image_text.proofs.places.is_before.Goals as goal

pub returns : goal.returns
returns c r same is fits =
    let text = c.in-Ok.ensures.cases.0 ∙ same in
    let first = c.in_ok-reader.ensures.ok ∙ starts r c.in-Ok.text.now text is fits in
    let past = read_past c.next.result _ c.next.new.self _ _ c.next.ensures.value first in
    let table = c.next_text-table.ensures _ _ past in
    let key = c.next_text-row_key.ensures _ _ table.1 in
    let within = read_past c.next-2.result _ c.next-2.new.self _ _ c.next-2.ensures.value key.1 in
    let node = c.next_text-node.ensures _ _ within in
    let counter = c.next_number-counter.ensures _ _ fits node.1 in
    let by_table = c.cmp-by_table.ensures ∙ ap₂ nat_cmp (c.place_named.ensures (table_of r.entry) table.0) c.place_of.ensures in
    let by_key = c.cmp-by_key.ensures ∙ ap₂ (slice_cmp nat_cmp) key.0 c.key.ensures in
    let by_counter = c.cmp-by_counter.ensures ∙ ap (λ n. nat_cmp n c.args.other.now.dot.now.counter) counter.0 in
    let by_node = c.cmp-by_node.ensures ∙ ap₂ (slice_cmp nat_cmp) node.0 c.as_str.ensures.value in
    let by_dot = c.then-by_dot.ensures ∙ ap₂ ordering_then by_counter by_node in
    c.is_lt.ensures ∙ ap is_lt (c.then-2.ensures ∙ ap₂ ordering_then (c.then.ensures ∙ ap₂ ordering_then by_table by_key) by_dot)

pub returns-in-Err : goal.returns-in-Err
returns-in-Err c r same is fits = absurd (c.in-Err.ensures.cases.0 (subst IsUtf8 (sym same) (row_utf8 r is fits)))
