use Rattle.std.proofs.Common.{◌≡◌, take}
use Rattle.sup_replica.proofs.copies.effects_copy.Given as goal

abbrev pub invariant-loop-effect : goal.invariant-loop-effect
invariant-loop-effect l = l.copy.items ≡ take l.effect-index l.effect-items
