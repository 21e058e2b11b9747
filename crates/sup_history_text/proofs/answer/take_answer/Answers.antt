use Rattle.std.proofs.Common.{arith}
use Rattle.sup_history_text.proofs.LineLaws.{two_parts_only, three_parts}
use Rattle.sup_history_text.proofs.OnlyBeginLaws.{goes_not_on}
use Rattle.sup_history_text.proofs.answer.take_answer.Goals as goal
use Rattle.sup_history_text.proofs.answer.take_answer.Goals.{else-count-lines-via-then-count-lines+else-is, else-count-lines-via-else-count-lines}

pub returns-then-is-clause-lines : goal.returns-then-is-clause-lines
returns-then-is-clause-lines c = three_parts c.args.lines.now c.told_count-count.result _ c.if-count-lines.true

pub returns-clause-lines : goal.returns-clause-lines
returns-clause-lines c = two_parts_only c.args.lines.now c.told_count-count.result

pub returns-clause-over : goal.returns-clause-over
returns-clause-over c =
    elim c.else-count-lines.branch [
      | else-count-lines-via-then-count-lines+else-is w ↦ λ short. goes_not_on c.args.lines.now c.told_count-count.result (λ lt. c.told_count-count.ensures.next lt _) (λ lt end. let no = w.if-is.ensures.1 end in cc)
      | else-count-lines-via-else-count-lines w ↦ λ short. goes_not_on c.args.lines.now c.told_count-count.result (λ lt. absurd (omega (arith, w.if-count-lines.false))) (λ lt. absurd (omega (arith, w.if-count-lines.false)))
    ]
