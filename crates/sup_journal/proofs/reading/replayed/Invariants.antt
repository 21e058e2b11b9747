use Rattle.std.proofs.Common.{◌≡◌, ◌+◌, ◌≤◌, length}
use Rattle.sup_journal.specs.Files.{ended_lines, replayed}
use Rattle.sup_journal.proofs.reading.replayed.Given as goal

-- what the lines so far make of the image leads to what all make of it; and no line is shorter than its line feed
abbrev pub invariant-loop-line : goal.invariant-loop-line
invariant-loop-line l = (replayed 2 l.first (ended_lines l.others) ≡ replayed l.number l.image.items (ended_lines l.rest)) × (l.number + length l.rest ≤ 2 + length l.others)

abbrev pub decreases-loop-line : goal.decreases-loop-line
decreases-loop-line l = length l.rest
