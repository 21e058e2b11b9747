use Rattle.std.proofs.Common.{◌≡◌, ◌++◌, map, take}
use Rattle.sup_noting.specs.Turns.{effect_at}
use Rattle.sup_noting.proofs.turns.add_effects_of.Given as goal

abbrev pub invariant-loop-at : goal.invariant-loop-at
invariant-loop-at l = l.changes.items ≡ l.initial.changes.items ++ map (λ e. effect_at l.row e.0 e.1) (take l.at-index l.effects)
