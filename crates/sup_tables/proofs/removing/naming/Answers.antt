use Rattle.std.proofs.Common.{◌∷◌, [], subst}
use Rattle.sup_tables.specs.Makers.{removing}
use Rattle.sup_tables.specs.States.{StandsFor}
use Rattle.sup_tables.proofs.removing.naming.Goals as goal

pub returns-clause-stands : goal.returns-clause-stands
returns-clause-stands c = subst (λ ds. StandsFor c.in_ok-delta.delta (removing ds ∷ [])) c.deref.ensures.value c.in_ok-delta.ensures

pub returns-clause-state : goal.returns-clause-state
returns-clause-state c = c.are_of_one.ensures (removing c.args.dots.items) (returns-clause-stands c)
