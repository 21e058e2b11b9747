use Rattle.sup_links.specs.Ends.{SameOut}
use Rattle.sup_links_tests.proofs.given.expect_taken.Given as goal

abbrev pub invariant-loop-message : goal.invariant-loop-message
invariant-loop-message g l = SameOut l.initial.exit l.exit
