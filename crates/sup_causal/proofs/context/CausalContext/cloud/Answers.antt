use Rattle.std.proofs.Common.{sym, ◌∙◌, subst}
use Rattle.sup_causal.specs.Dots.{has}
use Rattle.sup_causal.specs.Cut.{IsCloud}
use Rattle.sup_causal.proofs.CutLaws.{cloud_of_parts}
use Rattle.sup_causal.proofs.Views.{has_kept}
use Rattle.sup_causal.proofs.context.CausalContext.cloud.Goals as goal

pub returns : goal.returns
returns c =
    let v = c.self.inside.vector.items in
    let cloud = c.self.inside.cloud.items in
    subst (IsCloud (has c.args.self.now)) (sym (c.in_ok-cloud.ensures.items ∙ c.deref.ensures.value))
    (cloud_of_parts (has c.args.self.now) v cloud c.self.invariant (has_kept c.args.self.now v cloud c.self.invariant c.self.view_is))
