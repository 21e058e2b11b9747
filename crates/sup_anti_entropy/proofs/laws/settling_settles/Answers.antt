-- For the lattice of what the values mean.
use Rattle.sup_anti_entropy.specs.Joins.{joins_of}
use Rattle.sup_anti_entropy.proofs.PromiseLaws.{settling_settles}
use Rattle.sup_anti_entropy.proofs.laws.settling_settles.Goals as goal

pub returns : goal.returns
returns c start = λ laws nothing unit. settling_settles (joins_of _ laws nothing unit)
