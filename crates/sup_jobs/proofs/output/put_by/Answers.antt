use Rattle.std.proofs.Common.{◌≡◌, ◌+◌, ◌++◌, take, drop, arith, take-add, ◌-◌, length}
use Rattle.std.proofs.lemmas.Grind.{common_steps}
use Rattle.std.proofs.KnownBytes.{Appends-trans}
use Rattle.sup_jobs.proofs.output.put_by.Goals as goal

pub loop-done-preserved-in-Ok : goal.loop-done-preserved-in-Ok
loop-done-preserved-in-Ok g c =
    let joined = Appends-trans _ _ _ _ _ c.loop-done.invariant.1 c.in-Ok.ensures.bytes in
    let text : take (c.loop-done.done + c.in-Ok.count) c.args.bytes.now ≡ take c.loop-done.done c.args.bytes.now ++ take c.in-Ok.count (drop c.loop-done.done c.args.bytes.now) = take-add c.loop-done.done c.in-Ok.count c.args.bytes.now in
    let rest : take (length c.args.bytes.now - c.loop-done.done) (drop c.loop-done.done c.args.bytes.now) ≡ drop c.loop-done.done c.args.bytes.now = grind (arith, common_steps) in
    (grind (arith, common_steps, c.in-Ok.ensures.bound), rw text (rw rest at joined))
