use Rattle.sup_causal.specs.Dots.{dot_cmp}
use Rattle.sup_causal.specs.DotLaws.{dot_total, dot_exact}
use Rattle.sup_dot_store.specs.ByDot.{at_dot}
use Rattle.std.proofs.Common.{ap, sym, ◌∙◌, subst, inr}
use Rattle.std.specs.Option.{option_copied}
use Rattle.std.specs.Map.{lookup}
use Rattle.std.specs.BTreeMap.{is_at}
use Rattle.sup_causal.specs.Merge.{IsMergeAt}
use Rattle.sup_causal.proofs.Walk.{met_at, walks_on, walked}
use Rattle.sup_causal.proofs.Merges.{merged_held, merged_none}
use Rattle.sup_dot_store.proofs.ShortLaws.{put_here, put_elsewhere}
use Rattle.sup_dot_store.proofs.dot_by_dot.merge_values.Goals as goal

pub loop-dot-init : goal.loop-dot-init
loop-dot-init g c q =
    let at = lookup (is_at (dot_cmp q)) in
    let same = c.into_iter-dot-iterator.ensures.into_iter_gives in
    inr (ap (λ s. at s.left) same ∙ ap at c.new-dot-items.ensures.left, ap (λ s. at s.right) same ∙ ap at c.new-dot-items.ensures.right, ap at c.in_ok-out.ensures)

pub merge-requires : goal.merge-requires
merge-requires g c =
    let k = c.in-Some.dot.now in
    let left = at_dot c.args.left.now in
    let right = at_dot c.args.right.now in
    let met = met_at dot_total left right c.in-Some.ensures.steps (c.loop-dot.invariant k) in
    subst (λ l. g.M.Merge.can_merge c.args.by.now k l (option_copied c.in-Some.right_value)) (sym met.0) (subst (g.M.Merge.can_merge c.args.by.now k (left k)) (sym met.1) (c.requires k))

pub put_merged-requires : goal.put_merged-requires
put_merged-requires g c =
    (met_at dot_total (at_dot c.args.left.now) (at_dot c.args.right.now) c.in-Some.ensures.steps (c.loop-dot.invariant c.in-Some.dot.now)).2

pub loop-dot-preserved : goal.loop-dot-preserved
loop-dot-preserved g c q =
    let k = c.in-Some.dot.now in
    let left = at_dot c.args.left.now in
    let right = at_dot c.args.right.now in
    let new = at_dot c.put_merged.new.out in
    let gives = g.M.Merge.gives c.args.by.now in
    let met = met_at dot_total left right c.in-Some.ensures.steps (c.loop-dot.invariant k) in
    let made : IsMergeAt (gives k) (option_copied c.in-Some.left_value) (option_copied c.in-Some.right_value) c.in_ok-merged.merged = merged_held (gives k) _ _ _ c.in-Some.ensures.steps.held c.in_ok-merged.ensures in
    let here : IsMergeAt (gives k) (left k) (right k) (new k) =
    subst (λ l. IsMergeAt (gives k) l (right k) (new k)) met.0 (subst (λ r. IsMergeAt (gives k) (option_copied c.in-Some.left_value) r (new k)) met.1 (subst (IsMergeAt (gives k) (option_copied c.in-Some.left_value) (option_copied c.in-Some.right_value)) (sym (put_here k c.in_ok-merged.merged (at_dot c.loop-dot.out) new c.in_ok-put_merged.ensures)) made)) in
    let kept = put_elsewhere k c.in_ok-merged.merged (at_dot c.loop-dot.out) new c.in_ok-put_merged.ensures q in
    walks_on dot_total left right c.in-Some.ensures.steps dot_exact q (c.loop-dot.invariant q)
    (λ e. subst (λ q. IsMergeAt (gives q) (left q) (right q) (new q)) e here)
    (λ apart done. subst (IsMergeAt (gives q) (left q) (right q)) (sym (kept apart)) done)
    (λ apart none. kept apart ∙ none)

pub returns-clause-merged : goal.returns-clause-merged
returns-clause-merged g c q =
    let left = at_dot c.args.left.now in
    let right = at_dot c.args.right.now in
    let gives = g.M.Merge.gives c.args.by.now q in
    subst (λ m. IsMergeAt gives (left q) (right q) (at_dot m q)) (sym c.shrink.ensures)
    (walked dot_total left right _ _ c.in-None.ensures.steps.0 c.in-None.ensures.steps.1 q (merged_none gives (left q) (right q) (at_dot c.loop-dot.out q)) (c.loop-dot.invariant q))
