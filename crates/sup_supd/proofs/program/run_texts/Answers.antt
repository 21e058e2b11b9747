use Rattle.std.proofs.Common.{inr, refl}
use Rattle.sup_supd.specs.declared.unserved.Unserved.TheVariants.{Words}
use Rattle.sup_supd.proofs.program.run_texts.Goals as goal

pub returns-in-Some : goal.returns-in-Some
returns-in-Some g c = rw c.in-Some.ensures.some c.run_set.ensures

pub returns-in-None : goal.returns-in-None
returns-in-None g c = rw c.in-None.ensures.none (inr (Words, (refl, inr (refl, refl)), refl, c.refuse.ensures))
