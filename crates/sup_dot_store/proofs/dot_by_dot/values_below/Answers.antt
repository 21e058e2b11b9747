use Rattle.sup_causal.specs.Dots.{dot_cmp}
use Rattle.sup_causal.specs.DotLaws.{dot_total, dot_exact}
use Rattle.sup_dot_store.specs.ByDot.{at_dot}
use Rattle.std.proofs.Common.{rules, ap, sym, ◌∙◌, subst, inr}
use Rattle.std.specs.Option.{option_copied}
use Rattle.std.specs.Map.{lookup}
use Rattle.std.specs.BTreeMap.{is_at}
use Rattle.sup_causal.specs.Merge.{IsBelowAt}
use Rattle.sup_causal.proofs.Walk.{met_at, walks_on, walked}
use Rattle.sup_causal.proofs.Merges.{below_held, held_below, below_none}
use Rattle.sup_dot_store.proofs.dot_by_dot.values_below.Goals as goal

pub loop-dot-init : goal.loop-dot-init
loop-dot-init g c q =
    let at = lookup (is_at (dot_cmp q)) in
    let same = c.into_iter-dot-iterator.ensures.into_iter_gives in
    inr (ap (λ s. at s.left) same ∙ ap at c.new-dot-items.ensures.left, ap (λ s. at s.right) same ∙ ap at c.new-dot-items.ensures.right, tt)

pub below-requires : goal.below-requires
below-requires g c =
    let k = c.in-Some.dot.now in
    let left = at_dot c.args.left.now in
    let right = at_dot c.args.right.now in
    let met = met_at dot_total left right c.in-Some.ensures.steps (c.loop-dot.invariant k) in
    subst (λ l. g.M.Below.can_compare c.args.by.now k l (option_copied c.in-Some.right_value)) (sym met.0) (subst (g.M.Below.can_compare c.args.by.now k (left k)) (sym met.1) (c.requires k))

pub returns-then-not-below : goal.returns-then-not-below
returns-then-not-below g c =
    let k = c.in-Some.dot.now in
    let left = at_dot c.args.left.now in
    let right = at_dot c.args.right.now in
    let below = g.M.Below.is_below c.args.by.now k in
    let met = met_at dot_total left right c.in-Some.ensures.steps (c.loop-dot.invariant k) in
    let holds : IsBelowAt below (left k) (right k) → below (option_copied c.in-Some.left_value) (option_copied c.in-Some.right_value) = λ h. held_below below _ _ c.in-Some.ensures.steps.held (subst (λ l. IsBelowAt below l (option_copied c.in-Some.right_value)) (sym met.0) (subst (IsBelowAt below (left k)) (sym met.1) h)) in
    (λ h q. absurd (search rules), λ all. let said = c.below.ensures.1 (holds (all k)) in let not = c.if-not-below.true in search rules)

pub loop-dot-preserved : goal.loop-dot-preserved
loop-dot-preserved g c q =
    let k = c.in-Some.dot.now in
    let left = at_dot c.args.left.now in
    let right = at_dot c.args.right.now in
    let below = g.M.Below.is_below c.args.by.now in
    let met = met_at dot_total left right c.in-Some.ensures.steps (c.loop-dot.invariant k) in
    let here : IsBelowAt (below k) (left k) (right k) = subst (λ l. IsBelowAt (below k) l (right k)) met.0 (subst (IsBelowAt (below k) (option_copied c.in-Some.left_value)) met.1 (below_held (below k) _ _ c.in-Some.ensures.steps.held (c.below.ensures.0 (rw c.if-not-below.false (search rules))))) in
    walks_on dot_total left right c.in-Some.ensures.steps dot_exact q (c.loop-dot.invariant q) (λ e. subst (λ q. IsBelowAt (below q) (left q) (right q)) e here) (λ _ done. done) (λ _ _. tt)

pub returns : goal.returns
returns g c =
    let left = at_dot c.args.left.now in
    let right = at_dot c.args.right.now in
    (λ _ q. walked dot_total left right _ _ c.in-None.ensures.steps.0 c.in-None.ensures.steps.1 q (λ no none _. below_none (g.M.Below.is_below c.args.by.now q) (left q) (right q) no none) (c.loop-dot.invariant q), λ _. search rules)
