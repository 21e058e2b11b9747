use Rattle.sup_dot_store.proofs.stores_under.StoresInBelow.below.Goals as goal

pub returns-in-Some : goal.returns-in-Some
returns-in-Some g c = rw c.in-Some.is c.covered_by.ensures
