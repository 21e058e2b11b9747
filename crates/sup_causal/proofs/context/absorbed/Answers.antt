use Rattle.std.proofs.Common.{◌∙◌}
use Rattle.sup_causal.proofs.Views.{has_dots}
use Rattle.sup_causal.proofs.context.absorbed.Goals as goal

pub returns : goal.returns
returns c d = has_dots c.absorb.new.vector.items c.in_ok-cloud.cloud.items c.in_ok-cloud.ensures.canonical d ∙ c.in_ok-cloud.ensures.dots d
