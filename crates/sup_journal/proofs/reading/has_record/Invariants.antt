use Rattle.std.proofs.Common.{◌≡◌, length}
use Rattle.std.specs.List.{list_any}
use Rattle.sup_journal.specs.Records.{is_record}
use Rattle.sup_journal.specs.Files.{ended_lines}
use Rattle.sup_journal.proofs.reading.has_record.Given as goal

-- the lines so far are no records
abbrev pub invariant-loop-line : goal.invariant-loop-line
invariant-loop-line l = list_any is_record (ended_lines l.text) ≡ list_any is_record (ended_lines l.rest)

abbrev pub decreases-loop-line : goal.decreases-loop-line
decreases-loop-line l = length l.rest
