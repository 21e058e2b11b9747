use Rattle.std.proofs.Common.{sym, subst}
use Rattle.sup_dot_store.proofs.RowRuns.{IsCut, uncut, cut_more}
use Rattle.sup_dot_store.proofs.row_runs.functions_of.Goals as goal

pub loop-stores-init : goal.loop-stores-init
loop-stores-init g c = subst (IsCut g.K.Ord.cmp c.args.rows.items c.args.rows.items) (sym c.new-stores.ensures.empty) (uncut g.met.K.Ord.total c.args.rows.items c.requires)

pub loop-stores-preserved-in_ok-insert : goal.loop-stores-preserved-in_ok-insert
loop-stores-preserved-in_ok-insert g c =
    cut_more g.met.K.Ord.total c.args.rows.items c.loop-stores.rows.items c.last_run.new.rows.items c.loop-stores.stores.entries c.insert.new.self.entries c.in-Some.key c.in-Some.function
    c.loop-stores.invariant (rw c.in-Some.is at c.in_ok-key.ensures.some) c.in_ok-insert.ensures.entries

pub loop-stores-preserved : goal.loop-stores-preserved
loop-stores-preserved g c =
    cut_more g.met.K.Ord.total c.args.rows.items c.loop-stores.rows.items c.last_run.new.rows.items c.loop-stores.stores.entries c.insert.new.self.entries c.in-Some.key c.in-Some.function
    c.loop-stores.invariant (rw c.in-Some.is at c.in_ok-key.ensures.some) c.in_ok-insert.ensures.entries
