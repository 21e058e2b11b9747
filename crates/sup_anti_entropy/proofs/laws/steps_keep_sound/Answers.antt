-- For the lattice of what the values mean.
use Rattle.sup_anti_entropy.specs.Joins.{joins_of}
use Rattle.sup_anti_entropy.proofs.PromiseLaws.{steps_keep_sound}
use Rattle.sup_anti_entropy.proofs.laws.steps_keep_sound.Goals as goal

pub returns : goal.returns
returns c start = λ laws nothing unit. steps_keep_sound (joins_of _ laws nothing unit)
