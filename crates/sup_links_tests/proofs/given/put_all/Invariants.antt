use Rattle.sup_links.specs.Ends.{SameIn}
use Rattle.sup_links_tests.proofs.given.put_all.Given as goal

abbrev pub invariant-loop-message : goal.invariant-loop-message
invariant-loop-message g l = SameIn l.initial.entry l.entry
