use Rattle.std.proofs.Common.{ap, ◌∙◌}
use Rattle.sup_clustering.specs.declared.told.Untold.TheVariants.{Stopped}
use Rattle.sup_clustering.proofs.told.Untold.fault.Goals as goal

pub of_run-requires : goal.of_run-requires
of_run-requires g c = λ is. c.requires (c.in-Stopped.is ∙ ap (λ f. Stopped f) is)
