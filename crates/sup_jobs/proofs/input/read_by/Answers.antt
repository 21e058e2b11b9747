use Rattle.std.proofs.Common.{◌++◌, take, arith}
use Rattle.std.proofs.lemmas.Grind.{common_steps}
use Rattle.std.proofs.KnownBytes.{Consumes-trans}
use Rattle.sup_jobs.proofs.input.read_by.Goals as goal

pub returns-in-Ok-clause-taken : goal.returns-in-Ok-clause-taken
returns-in-Ok-clause-taken g c = (
  c.loop-buffer.bytes.items ++ take c.in-Ok.count c.ask.new.buffer,
  grind (arith, common_steps, c.in-Ok.ensures.bound),
  Consumes-trans _ _ _ _ _ c.loop-buffer.invariant.1 c.in-Ok.ensures.bytes.0,
)

pub returns-then-is_err-clause-taken : goal.returns-then-is_err-clause-taken
returns-then-is_err-clause-taken g c = (
  c.loop-buffer.bytes.items ++ take c.in-Ok-2.count c.ask.new.buffer,
  grind (arith, common_steps, c.in-Ok-2.ensures.bound),
  Consumes-trans _ _ _ _ _ c.loop-buffer.invariant.1 c.in-Ok-2.ensures.bytes.0,
)
