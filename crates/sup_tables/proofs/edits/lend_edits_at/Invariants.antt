use Rattle.std.proofs.Common.{◌≡◌, ◌++◌}
use Rattle.sup_tables.specs.Lent.{edits_lent}
use Rattle.sup_tables.specs.Edits.{edits_at}
use Rattle.sup_tables.proofs.edits.lend_edits_at.Given as goal

abbrev pub invariant-loop-dot : goal.invariant-loop-dot
invariant-loop-dot g l =
    edits_lent l.edits.items ++ edits_at l.come g.V.Entered.says l.key l.dot-iterator ≡ edits_lent l.fn.edits.items ++ edits_at l.come g.V.Entered.says l.key l.values.entries
