use Rattle.sup_indexed.specs.Touched.{first_has}
use Rattle.sup_indexed.proofs.Touches.{AreStaying}
use Rattle.sup_indexed.proofs.touching.differs_in.Given as goal

abbrev pub invariant-loop-key : goal.invariant-loop-key
invariant-loop-key g l = AreStaying g.K.Ord.cmp l.changed l.stores (first_has (g.P.Property.is_held l.property)) l.key-iterator
