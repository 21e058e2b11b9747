use mathlib.Core.Path.{fun_ext}
use Rattle.std.proofs.Common.{◌||◌, ap, sym, ◌∙◌}
use Rattle.sup_specs.specs.Rising.{among}
use Rattle.sup_specs.specs.Values.{text_cmp}
use Rattle.sup_causal.specs.Cut.{in_runs}
use Rattle.sup_causal.specs.Dots.{dot_cmp}
use Rattle.sup_causal.proofs.Sorted.{pairs_rise}
use Rattle.sup_causal.proofs.CutLemmas.{in_runs_is}
use Rattle.sup_causal.specs.Parts.{in_vector}
use Rattle.sup_causal.proofs.Views.{has_kept}
use Rattle.sup_causal.proofs.Within.{or_four}
use Rattle.sup_causal.proofs.context.CausalContextLattice.joined.Goals as goal

pub returns : goal.returns
returns c =
    let v = c.self.inside.vector.items in
    let cloud = c.self.inside.cloud.items in
    let w = c.other.inside.vector.items in
    let others = c.other.inside.cloud.items in
    fun_ext (λ d.
    let runs = c.in_ok-lift.ensures.dots d ∙ (λ k. in_vector ((c.in_ok-vector.ensures.items ∙ c.deref.ensures.value) k) d || (ap (λ es. in_runs es d) c.deref-2.ensures.value ∙ in_runs_is w (pairs_rise text_cmp w c.other.invariant.by_name) d) k) in
    let rest = ap (λ ds. among dot_cmp ds d) c.deref-5.ensures.value ∙ c.in_ok-dots.ensures.dots d ∙ (λ k. among dot_cmp (c.deref-3.ensures.value k) d || among dot_cmp (c.deref-4.ensures.value k) d) in
    c.in_ok-context.ensures d
    ∙ (λ k. runs k || rest k)
    ∙ or_four (in_vector v d) (in_vector w d) (among dot_cmp cloud d) (among dot_cmp others d)
    ∙ (λ k. sym (has_kept c.args.self.now v cloud c.self.invariant c.self.view_is d) k || sym (has_kept c.args.other.now w others c.other.invariant c.other.view_is d) k))
