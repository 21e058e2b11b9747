use Rattle.std.proofs.Common.{sym, ◌∙◌, subst}
use Rattle.sup_causal.specs.Dots.{has}
use Rattle.sup_causal.specs.Cut.{IsVector}
use Rattle.sup_causal.proofs.CutLaws.{vector_of_parts}
use Rattle.sup_causal.proofs.Views.{has_kept}
use Rattle.sup_causal.proofs.context.CausalContext.vector.Goals as goal

pub returns : goal.returns
returns c =
    let v = c.self.inside.vector.items in
    let cloud = c.self.inside.cloud.items in
    subst (IsVector (has c.args.self.now)) (sym (c.in_ok-vector.ensures.items ∙ c.deref.ensures.value))
    (vector_of_parts (has c.args.self.now) v cloud c.self.invariant (has_kept c.args.self.now v cloud c.self.invariant c.self.view_is))
