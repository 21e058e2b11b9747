use Rattle.std.proofs.Common.{sym, ap, ◌∙◌}
use Rattle.sup_local_sup.specs.Supervising.{others}
use Rattle.sup_local_sup.proofs.AmongLaws.{without_none, without_step}
use Rattle.sup_local_sup.proofs.late.remove_each_late.Goals as goal

pub loop-id-init : goal.loop-id-init
loop-id-init c = sym (without_none c.args.late.now)

pub loop-id-preserved : goal.loop-id-preserved
loop-id-preserved c =
    c.remove_late.ensures ∙ ap (λ l. others l c.id-item.result) c.loop-id.invariant ∙ without_step c.args.late.now c.args.ids.now c.loop-id.id-index c.id-item.result c.loop-id-test.true c.id-item.is
