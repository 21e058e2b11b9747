use Rattle.std.proofs.Common.{◌≡◌, ◌↔◌, IsTrue, Bool, true, false, Some, None, refl}
use Rattle.sup_disk.specs.Crashes.{What}
use Rattle.sup_supd.specs.Ends.{is_unfiled}
use Rattle.sup_supd.proofs.node.run_filed.Goals as goal

new_unfiled : (is_new : Bool) (copy : What) → (IsTrue is_new ↔ (copy ≡ None)) → is_new ≡ is_unfiled copy
new_unfiled true None h = refl
new_unfiled true (Some bytes) h = let e : Some bytes ≡ None = h.0 refl in cc
new_unfiled false None h = let e : false ≡ true = h.1 refl in cc
new_unfiled false (Some bytes) h = refl

pub returns-clause-runs : goal.returns-clause-runs
returns-clause-runs g c = rw (← new_unfiled c.is_new-is_new.result c.args.keeper.copy c.is_new-is_new.ensures) c.run_node.ensures.runs
