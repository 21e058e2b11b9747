use Rattle.sup_causal.specs.Dots.{has}
use Rattle.sup_indexed.proofs.Differences.{lone_dot}
use Rattle.sup_indexed.proofs.differing.is_unknown.Goals as goal

pub returns-in-Some : goal.returns-in-Some
returns-in-Some g c lacks = lone_dot (has c.args.context.now) c.args.function.now.values c.in-Some.dot.now c.in-Some.field-0-1.now c.in-Some.ensures c.contains.result c.contains.ensures.has lacks
