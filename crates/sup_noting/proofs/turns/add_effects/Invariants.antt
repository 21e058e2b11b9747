use Rattle.std.proofs.Common.{◌≡◌, ◌++◌, map, take}
use Rattle.sup_noting.specs.Turns.{effect_at}
use Rattle.sup_noting.proofs.turns.add_effects.Given as goal

abbrev pub invariant-loop-effect : goal.invariant-loop-effect
invariant-loop-effect l = l.changes.items ≡ l.initial.changes.items ++ map (effect_at l.row l.at) (take l.effect-index l.effects)
