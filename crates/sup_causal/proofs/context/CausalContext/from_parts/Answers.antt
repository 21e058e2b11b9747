use Rattle.std.proofs.Common.{sym, ◌∙◌}
use mathlib.Core.Bool.{false≢true}
use Rattle.sup_causal.specs.Dots.{has}
use Rattle.sup_causal.proofs.CutLaws.{vector_of_parts, cloud_of_parts, cut_canonical}
use Rattle.sup_causal.specs.Parts.{dots_of}
use Rattle.sup_causal.proofs.Views.{has_dots}
use Rattle.sup_causal.proofs.context.CausalContext.from_parts.Goals as goal

pub returns-then-not-is_canonical-clause-no_cut : goal.returns-then-not-is_canonical-clause-no_cut
returns-then-not-is_canonical-clause-no_cut c is holds counted vector cloud =
    false≢true (sym c.if-not-is_canonical.true ∙ c.is_canonical.ensures.1 (cut_canonical holds counted c.args.vector.now c.args.cloud.now vector cloud))

pub returns-clause-dots : goal.returns-clause-dots
returns-clause-dots c d =
    (λ k. has (dots_of (c.in_ok-vector.ensures.items k) (c.in_ok-cloud.ensures.items k)) d)
    ∙ has_dots c.args.vector.now c.args.cloud.now (c.is_canonical.ensures.0 c.if-not-is_canonical.false) d

pub returns-clause-vector : goal.returns-clause-vector
returns-clause-vector c = vector_of_parts _ c.args.vector.now c.args.cloud.now (c.is_canonical.ensures.0 c.if-not-is_canonical.false) (returns-clause-dots c)

pub returns-clause-cloud : goal.returns-clause-cloud
returns-clause-cloud c = cloud_of_parts _ c.args.vector.now c.args.cloud.now (c.is_canonical.ensures.0 c.if-not-is_canonical.false) (returns-clause-dots c)
