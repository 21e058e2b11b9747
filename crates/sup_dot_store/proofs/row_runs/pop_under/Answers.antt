use Rattle.sup_dot_store.proofs.RowRuns.{row_popped, ends_off}
use Rattle.sup_dot_store.proofs.row_runs.pop_under.Goals as goal

pub returns-then-ne-clause-off : goal.returns-then-ne-clause-off
returns-then-ne-clause-off g c =
    ends_off g.K.Ord.cmp g.K.PartialEq.eq g.met.K.Ord.matches_eq c.args.key.now c.deref.result.now c.args.rows.now.items c.in_ok-last.field-0.now c.in_ok-last.ensures.value c.deref.ensures.value c.ne.result c.ne.ensures c.if-ne.true

pub returns-clause-some : goal.returns-clause-some
returns-clause-some g c =
    row_popped g.K.Ord.cmp g.K.PartialEq.eq g.met.K.Ord.matches_eq c.args.key.now c.deref.result.now c.args.rows.now.items c.in_ok-last.field-0.now c.in_ok-last.ensures.value c.deref.ensures.value c.ne.result c.ne.ensures
    g.met.K.Plain.exact c.if-ne.false c.pop.new.self.items c.in_ok-dot.field-0-0 c.in_ok-dot.dot c.in_ok-dot.value c.in_ok-dot.ensures.items
