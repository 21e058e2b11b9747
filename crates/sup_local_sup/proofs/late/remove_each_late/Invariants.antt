use Rattle.std.proofs.Common.{◌≡◌, take}
use Rattle.sup_local_sup.specs.Changing.{without}
use Rattle.sup_local_sup.proofs.late.remove_each_late.Given as goal

abbrev pub invariant-loop-id : goal.invariant-loop-id
invariant-loop-id l = l.late ≡ without l.fn.late (take l.id-index l.ids)
