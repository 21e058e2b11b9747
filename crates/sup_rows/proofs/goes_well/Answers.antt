use Rattle.sup_rows.proofs.CaseLaws.{judges}
use Rattle.sup_rows.proofs.goes_well.Goals as goal

pub returns : goal.returns
returns g c =
    judges c.args.name.now c.args.case c.in_ok-came.came (g.W.Write.contents c.args.writer.now) (g.W.Write.contents c.tell.new.writer) c.tell.result c.in_ok-came.ensures c.tell.ensures
