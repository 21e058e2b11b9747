use Rattle.std.proofs.Common.{◌∙◌, sym}
use Rattle.std.specs.Prelude.{codes}
use Rattle.std.specs.List.{flat_map}
use Rattle.sup_tables.specs.Readers.{losers}
use Rattle.sup_tables.specs.Rows.{names}
use Rattle.sup_tables.specs.Stored.{name_row}
use Rattle.sup_node_text.specs.Lines.{loser_line}
use Rattle.sup_node_text.proofs.LoserLaws.{lines_of_rows}
use Rattle.sup_node_text.proofs.tables.name_losers_text.Goals as goal

pub returns : goal.returns
returns c =
    let key = c.args.name.now in
    let lines = lines_of_rows (λ r. loser_line (codes "name") key r.dot) (λ l. name_row key l.dot.now l.value.now) c.in_ok-losers.losers.items (losers c.args.tables.now.rows names key) c.in_ok-losers.ensures in
    c.in_ok-lines.ensures ∙ (λ i. flat_map (λ l. loser_line (codes "name") (c.as_str.ensures.value i) l.dot.now) (c.deref.ensures.value i)) ∙ sym lines
