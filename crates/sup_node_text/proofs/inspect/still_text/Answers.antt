use Rattle.std.proofs.Common.{◌≡◌, rules, string_bytes}
use Rattle.sup_node_text.specs.Shown.{tables_text}
use Rattle.sup_node_text.proofs.InspectionLaws.{still_told}
use Rattle.sup_node_text.proofs.inspect.still_text.Goals as goal

pub returns : goal.returns
returns g c =
    let image = c.args.still.now in
    let weigher = g.W.Weigh.weight_of in
    let tables : c.as_str.result.now ≡ tables_text weigher image.state.rows = search rules in
    let cut : c.as_str-2.result.now ≡ string_bytes c.in_ok-cut.cut = c.as_str-2.ensures.value in
    still_told string_bytes c.stored_text.result weigher image (string_bytes c.in_ok-cut.cut) (rw (c.context.ensures.value, c.tables-2.ensures) at c.in_ok-cut.ensures)
    (rw (c.node-node.ensures, c.boot-boot.ensures, c.count-count.ensures, tables, cut) at c.stored_text.ensures)
