use Rattle.std.proofs.Common.{◌≤◌, ◌-◌, length, take}
use Rattle.std.specs.Io.KnownBytes.{Appends}
use Rattle.sup_jobs.proofs.output.put_by.Given as goal

abbrev pub invariant-loop-done : goal.invariant-loop-done
invariant-loop-done g l = (l.done ≤ length l.bytes) × Appends (g.W.Write.contents l.fn.writer) (g.W.Write.contents l.writer) (take l.done l.bytes)

abbrev pub decreases-loop-done : goal.decreases-loop-done
decreases-loop-done g l = 18446744073709551615 - l.attempts.made
