use Rattle.std.proofs.Common.{◌≤◌, length}
use Rattle.sup_journal.proofs.changes.change.Given as goal

abbrev pub invariant-loop : goal.invariant-loop
invariant-loop l = (l.deleted ≤ length l.left) × (l.inserted ≤ length l.right)
