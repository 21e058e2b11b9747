use Rattle.std.proofs.Common.{◌++◌, ap, ◌∙◌, reverse}
use Rattle.sup_dot_store.specs.RowLists.{rows_under}
use Rattle.sup_dot_store.proofs.RowRuns.{row_more, run_rises, run_is}
use Rattle.sup_dot_store.proofs.row_runs.last_run.Goals as goal

pub loop-dot-preserved : goal.loop-dot-preserved
loop-dot-preserved g c =
    row_more g.met.K.Ord.total c.in-Some.key c.in-Some-pop_under.dot c.in-Some-pop_under.value c.args.rows.now.items c.loop-dot.rows.items c.pop_under.new.rows.items c.loop-dot.falling.items c.push-in-Some-pop_under.new.self.items
    c.loop-dot.invariant.0 c.in-Some-pop_under.ensures.some c.in_ok-push-2.ensures.items

pub of_falling-values-requires : goal.of_falling-values-requires
of_falling-values-requires g c =
    run_rises g.met.K.Ord.total c.in-Some.key c.args.rows.now.items c.loop-dot.rows.items (reverse c.loop-dot.falling.items) c.requires c.loop-dot.invariant.0

pub returns-clause-some : goal.returns-clause-some
returns-clause-some g c =
    let es = reverse c.loop-dot.falling.items in
    run_is g.met.K.Ord.total c.in-Some.key c.args.rows.now.items c.pop_under.new.rows.items c.of.result es (ap (λ m. m.entries) c.of.ensures ∙ c.of_falling-values.ensures) c.requires
    (ap (λ rows. rows ++ rows_under c.in-Some.key es) c.in_default-pop_under.ensures.none ∙ c.loop-dot.invariant.0) c.loop-dot.invariant.1 c.in_default-pop_under.ensures.off
