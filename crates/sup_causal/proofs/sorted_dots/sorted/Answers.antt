use Rattle.std.proofs.Common.{ap, ◌∙◌}
use Rattle.std.proofs.lemmas.List.Filters.{dedup_is}
use Rattle.sup_specs.specs.Rising.{among}
use Rattle.sup_causal.specs.Dots.{dot_cmp}
use Rattle.sup_causal.proofs.Sorted.{same_dot, sorted_has, sorted_kept}
use Rattle.sup_causal.proofs.sorted_dots.sorted.Goals as goal

pub returns-clause-kept : goal.returns-clause-kept
returns-clause-kept c =
    let is = dedup_is same_dot _ _ c.dedup.ensures.filtered in
    rw is (sorted_kept _ _ c.sort_unstable.ensures.permutation c.sort_unstable.ensures.sorted c.requires)

pub returns-clause-dots : goal.returns-clause-dots
returns-clause-dots c d =
    ap (λ dots. among dot_cmp dots d) (dedup_is same_dot _ _ c.dedup.ensures.filtered) ∙ sorted_has _ _ c.sort_unstable.ensures.permutation d
