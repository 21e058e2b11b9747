use Rattle.std.proofs.Common.{◌≡◌, length}
use Rattle.sup_svg.specs.Grids.{longest_in}
use Rattle.sup_svg.proofs.grid.longest_of.Given as goal

abbrev pub invariant-loop-rest : goal.invariant-loop-rest
invariant-loop-rest l = longest_in l.longest l.rest ≡ longest_in 0 l.fn.nodes

abbrev pub decreases-loop-rest : goal.decreases-loop-rest
decreases-loop-rest l = length l.rest
