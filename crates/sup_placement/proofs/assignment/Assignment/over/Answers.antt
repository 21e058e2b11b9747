use Rattle.std.proofs.Common.{◌≡◌, ◌∙◌, ◌||◌}
use Rattle.std.specs.Str.{bytes_eq}
use Rattle.sup_placement.proofs.ThereLaws.{any_step, eq_turned}
use Rattle.sup_placement.proofs.assignment.Assignment.over.Goals as goal

pub loop-id-preserved : goal.loop-id-preserved
loop-id-preserved g c = (
  c.in_ok-put.ensures.members ∙ c.loop-id.invariant.0,
  λ q.
      c.in_ok-put.ensures.there q
      ∙ (λ j. eq_turned c.id-item.result.now q j || c.loop-id.invariant.1 q j)
      ∙ any_step (λ id. bytes_eq q id.now) c.args.ids.now c.loop-id.id-index c.id-item.result c.loop-id-test.true c.id-item.is,
)
