use Rattle.std.proofs.Common.{◌≡◌, ◌||◌, true, take}
use Rattle.sup_causal.specs.Cut.{IsCanonical, in_parts}
use Rattle.sup_causal.specs.declared.dot.Dot.{Dot}
use Rattle.sup_specs.specs.Rising.{among}
use Rattle.sup_causal.specs.Dots.{dot_cmp}
use Rattle.sup_causal.specs.Parts.{in_vector}
use Rattle.sup_causal.proofs.absorb.absorb.Given as goal

-- what is taken in, and that the cloud is among it
abbrev pub invariant-loop-dot : goal.invariant-loop-dot
invariant-loop-dot l =
    IsCanonical l.vector.items l.cloud.items
    × ((d : Dot) → in_parts l.vector.items l.cloud.items d ≡ (in_vector l.fn.vector.items d || among dot_cmp (take l.dot-index l.dots) d))
    × ((d : Dot) → among dot_cmp l.cloud.items d ≡ true → among dot_cmp (take l.dot-index l.dots) d ≡ true)
