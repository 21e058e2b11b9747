use Rattle.std.proofs.Common.{◌∙◌, refl, arith}
use Rattle.sup_links.proofs.LoopLaws.{count_one}
use Rattle.sup_links.proofs.held.count_down.Goals as goal

pub loop-message-preserved : goal.loop-message-preserved
loop-message-preserved c = count_one c.loop-message.message-items c.loop-message.message-index c.message-item.result _ (omega arith) c.saturating_sub-message.ensures refl ∙ c.loop-message.invariant
