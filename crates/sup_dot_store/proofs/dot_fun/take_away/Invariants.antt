use Rattle.std.proofs.Common.{◌≡◌, cond, None, take}
use Rattle.sup_dot_store.specs.ByDot.{at_dot}
use Rattle.sup_causal.specs.Dots.{dot_cmp}
use Rattle.sup_specs.specs.Rising.{among}
use Rattle.sup_dot_store.proofs.dot_fun.take_away.Given as goal

abbrev pub invariant-loop-dot : goal.invariant-loop-dot
invariant-loop-dot g l = (d : _) → at_dot l.values d ≡ cond (among dot_cmp (take l.dot-index l.dots) d) None (at_dot l.fn.values d)
