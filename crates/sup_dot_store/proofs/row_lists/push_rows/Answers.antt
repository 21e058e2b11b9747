use Rattle.sup_dot_store.proofs.RowListLaws.{row_pushed}
use Rattle.sup_dot_store.proofs.row_lists.push_rows.Goals as goal

pub loop-dot-preserved : goal.loop-dot-preserved
loop-dot-preserved g c =
    row_pushed c.args.key.now c.in_ok-try_clone.field-0 c.in-Some.dot.now c.in-Some.value.now c.in_ok-try_clone-2.field-0 c.loop-dot.rows.items c.push.new.self.items _ c.next.new.self c.loop-dot.dot-iterator
    c.in_ok-push.ensures.items c.in_ok-try_clone.ensures c.in_ok-try_clone-2.ensures c.in-Some.ensures.steps c.loop-dot.invariant
