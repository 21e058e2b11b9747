use Rattle.std.proofs.Common.{◌||◌, ap, ◌∙◌}
use Rattle.sup_specs.specs.Rising.{among}
use Rattle.sup_causal.specs.Dots.{dot_cmp}
use Rattle.sup_causal.specs.Parts.{in_vector}
use Rattle.sup_causal.proofs.Views.{none_in_empty}
use Rattle.sup_causal.proofs.context.CausalContext.of_dots.Goals as goal

pub returns : goal.returns
returns c d =
    c.in_ok-context.ensures d
    ∙ (λ k. (ap (λ v. in_vector v d) c.new.ensures.items ∙ none_in_empty d) k || among dot_cmp (c.deref.ensures.value k) d)
    ∙ c.sorted-dots.ensures.dots d
    ∙ ap (λ dots. among dot_cmp dots d) c.in_ok-from_slice.ensures.items
