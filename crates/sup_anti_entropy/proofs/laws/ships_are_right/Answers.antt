-- For the lattice of what the values mean.
use Rattle.sup_anti_entropy.specs.Joins.{joins_of}
use Rattle.sup_anti_entropy.proofs.PromiseLaws.{ships_are_right}
use Rattle.sup_anti_entropy.proofs.laws.ships_are_right.Goals as goal

pub returns : goal.returns
returns c start = λ laws nothing unit. ships_are_right (joins_of _ laws nothing unit)
