use Rattle.std.proofs.Common.{◌∙◌, sym, arith}
use Rattle.std.proofs.lemmas.Bool.{true≢false}
use Rattle.sup_journal.proofs.CommonLaws.{front_more, front_most}
use Rattle.sup_journal.proofs.common.common_front.Goals as goal

pub loop-count-preserved : goal.loop-count-preserved
loop-count-preserved c = (
  omega (arith, c.loop-count-test.true, c.loop-count.invariant.0),
  front_more c.args.left.now c.args.right.now c.loop-count.count 64 c.loop-count.invariant.1 (c.are_same.ensures.0 c.if-are_same.true),
)

pub loop-count-2-preserved : goal.loop-count-2-preserved
loop-count-2-preserved c = (
  omega (arith, c.loop-count-2-test.true),
  front_more c.args.left.now c.args.right.now c.loop-count-2.count 1 c.loop-count-2.invariant.1 (c.are_same-in-loop-count-2.ensures.0 c.if-are_same-2.true),
)

pub returns-else-are_same-2 : goal.returns-else-are_same-2
returns-else-are_same-2 c = record {
  in_left = omega (arith, c.loop-count-2.invariant.0, c.min-most.ensures);
  in_right = omega (arith, c.loop-count-2.invariant.0, c.min-most.ensures);
  alike = c.loop-count-2.invariant.1;
  most = front_most c.args.left.now c.args.right.now c.loop-count-2.count (λ same. true≢false (sym (c.are_same-in-loop-count-2.ensures.1 same) ∙ c.if-are_same-2.false));
}
