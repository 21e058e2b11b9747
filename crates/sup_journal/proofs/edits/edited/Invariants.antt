use Rattle.std.proofs.Common.{◌≡◌, ◌++◌}
use Rattle.sup_journal.specs.Edits.{edits_in, edits_among, edited}
use Rattle.sup_journal.proofs.edits.edited.Given as goal

-- what was made, and what the edits that are left make of the rest
abbrev pub invariant-loop-turns : goal.invariant-loop-turns
invariant-loop-turns l = edited (edits_in l.fn.edits) l.fn.text ≡ l.made.items ++ edited (edits_among l.turns l.rest) l.from

abbrev pub decreases-loop-turns : goal.decreases-loop-turns
decreases-loop-turns l = l.turns
