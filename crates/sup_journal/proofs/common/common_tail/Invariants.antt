use Rattle.std.proofs.Common.{◌≡◌, ◌-◌, ◌≤◌, drop, length}
use Rattle.sup_journal.proofs.common.common_tail.Given as goal

abbrev pub invariant-loop-count : goal.invariant-loop-count
invariant-loop-count l = (l.count ≤ l.most) × (drop (length l.left - l.count) l.left ≡ drop (length l.right - l.count) l.right)

abbrev pub decreases-loop-count : goal.decreases-loop-count
decreases-loop-count l = l.most - l.count

abbrev pub invariant-loop-count-2 : goal.invariant-loop-count-2
invariant-loop-count-2 l = (l.count ≤ l.most) × (drop (length l.left - l.count) l.left ≡ drop (length l.right - l.count) l.right)

abbrev pub decreases-loop-count-2 : goal.decreases-loop-count-2
decreases-loop-count-2 l = l.most - l.count
