use Rattle.std.proofs.Common.{◌≡◌, length}
use Rattle.sup_picture.specs.Children.{children_of, with_children}
use Rattle.sup_picture.proofs.children.children_of.Given as goal

abbrev pub invariant-loop-rest : goal.invariant-loop-rest
invariant-loop-rest l = with_children l.children.items l.rest ≡ children_of l.fn.bars

abbrev pub decreases-loop-rest : goal.decreases-loop-rest
decreases-loop-rest l = length l.rest
