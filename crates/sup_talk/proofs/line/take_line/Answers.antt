use Rattle.std.proofs.Common.{[], ◌∷◌, ◌++◌, arith, inl, inr}
use Rattle.std.proofs.lemmas.Grind.{common_steps}
use Rattle.sup_talk.proofs.Longer.{unbroken-more, consumes-more, front-more}
use Rattle.sup_talk.proofs.line.take_line.Goals as goal

pub returns-then-is_err-clause-taken : goal.returns-then-is_err-clause-taken
returns-then-is_err-clause-taken g c =
    let before = c.loop-reader.invariant in (
      before.0 ++ (c.in-Ok-Some.byte ∷ []),
      unbroken-more before.0 c.in-Ok-Some.byte before.1 c.in-Ok-Some.byte-test.1,
      consumes-more _ _ _ before.0 c.in-Ok-Some.byte c.in-Ok-Some.field-0 c.in-Ok-Some.field-0-is before.2 c.in-Ok-Some.ensures.byte,
    )

pub loop-reader-preserved-then-len-ge-LINE_LIMIT : goal.loop-reader-preserved-then-len-ge-LINE_LIMIT
loop-reader-preserved-then-len-ge-LINE_LIMIT g c =
    front-more _ _ _ _ _ _ _ _ _ _ c.in-Ok-Some.byte c.in-Ok-Some.field-0 _ c.loop-reader.invariant c.in-Ok-Some.byte-test.1 c.in-Ok-Some.field-0-is c.in-Ok-Some.ensures.byte (inr (grind (arith, common_steps), grind (arith, common_steps), grind (arith, common_steps)))
    (record { most = c.in-Ok-Some.ensures.most; counted = c.in-Ok-Some.ensures.counted }) c.are_left.ensures.left c.loop-reader-test.true

pub loop-reader-preserved : goal.loop-reader-preserved
loop-reader-preserved g c =
    front-more _ _ _ _ _ _ _ _ _ _ c.in-Ok-Some.byte c.in-Ok-Some.field-0 _ c.loop-reader.invariant c.in-Ok-Some.byte-test.1 c.in-Ok-Some.field-0-is c.in-Ok-Some.ensures.byte (inl (grind (arith, common_steps), grind (arith, common_steps), grind (arith, common_steps)))
    (record { most = c.in-Ok-Some.ensures.most; counted = c.in-Ok-Some.ensures.counted }) c.are_left.ensures.left c.loop-reader-test.true
