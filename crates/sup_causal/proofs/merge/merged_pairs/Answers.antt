use Rattle.std.proofs.Common.{ap, sym, ◌∙◌, subst, inr}
use Rattle.std.specs.Option.{option_copied}
use Rattle.std.specs.Map.{lookup}
use Rattle.std.specs.BTreeMap.{get, is_at}
use Rattle.sup_causal.specs.Merge.{IsMergeAt, last_at}
use Rattle.sup_causal.proofs.Walk.{met_at, walks_on, walked}
use Rattle.sup_causal.proofs.Merges.{merged_held, merged_none, put_here, put_elsewhere}
use Rattle.sup_causal.proofs.merge.merged_pairs.Goals as goal

pub loop-key-init : goal.loop-key-init
loop-key-init g c q =
    let at = lookup (is_at (g.K.Ord.cmp q)) in
    let same = c.into_iter-key-iterator.ensures.into_iter_gives in
    inr (ap (λ s. at s.left) same ∙ ap at c.new-key-items.ensures.left, ap (λ s. at s.right) same ∙ ap at c.new-key-items.ensures.right, ap (λ pairs. last_at g.K.Ord.cmp pairs q) c.in_ok-pairs.ensures.items)

pub merge-requires : goal.merge-requires
merge-requires g c =
    let k = c.in-Some.key.now in
    let left = get g.K.Ord.cmp c.args.left.now in
    let right = get g.K.Ord.cmp c.args.right.now in
    let met = met_at g.met.K.Ord.total left right c.in-Some.ensures.steps (c.loop-key.invariant k) in
    subst (λ l. g.M.Merge.can_merge c.args.by.now k l (option_copied c.in-Some.right_value)) (sym met.0) (subst (g.M.Merge.can_merge c.args.by.now k (left k)) (sym met.1) (c.requires k))

pub push_merge-requires : goal.push_merge-requires
push_merge-requires g c =
    (met_at g.met.K.Ord.total (get g.K.Ord.cmp c.args.left.now) (get g.K.Ord.cmp c.args.right.now) c.in-Some.ensures.steps (c.loop-key.invariant c.in-Some.key.now)).2

pub loop-key-preserved : goal.loop-key-preserved
loop-key-preserved g c q =
    let k = c.in-Some.key.now in
    let left = get g.K.Ord.cmp c.args.left.now in
    let right = get g.K.Ord.cmp c.args.right.now in
    let new = last_at g.K.Ord.cmp c.push_merge.new.pairs.items in
    let gives = g.M.Merge.gives c.args.by.now in
    let met = met_at g.met.K.Ord.total left right c.in-Some.ensures.steps (c.loop-key.invariant k) in
    let made : IsMergeAt (gives k) (option_copied c.in-Some.left_value) (option_copied c.in-Some.right_value) c.in_ok-merged.merged = merged_held (gives k) _ _ _ c.in-Some.ensures.steps.held c.in_ok-merged.ensures in
    let here : IsMergeAt (gives k) (left k) (right k) (new k) =
    subst (λ l. IsMergeAt (gives k) l (right k) (new k)) met.0 (subst (λ r. IsMergeAt (gives k) (option_copied c.in-Some.left_value) r (new k)) met.1 (subst (IsMergeAt (gives k) (option_copied c.in-Some.left_value) (option_copied c.in-Some.right_value)) (sym (put_here g.K.Ord.cmp k c.in_ok-merged.merged c.loop-key.pairs.items c.push_merge.new.pairs.items g.met.K.Ord.total c.in_ok-push_merge.ensures)) made)) in
    let kept = put_elsewhere g.K.Ord.cmp k c.in_ok-merged.merged c.loop-key.pairs.items c.push_merge.new.pairs.items c.in_ok-push_merge.ensures q in
    walks_on g.met.K.Ord.total left right c.in-Some.ensures.steps g.met.K.Plain.exact q (c.loop-key.invariant q)
    (λ e. subst (λ q. IsMergeAt (gives q) (left q) (right q) (new q)) e here)
    (λ apart done. subst (IsMergeAt (gives q) (left q) (right q)) (sym (kept apart)) done)
    (λ apart none. kept apart ∙ none)

pub returns : goal.returns
returns g c q =
    let left = get g.K.Ord.cmp c.args.left.now in
    let right = get g.K.Ord.cmp c.args.right.now in
    walked g.met.K.Ord.total left right _ _ c.in-None.ensures.steps.0 c.in-None.ensures.steps.1 q (merged_none (g.M.Merge.gives c.args.by.now q) (left q) (right q) (last_at g.K.Ord.cmp c.loop-key.pairs.items q)) (c.loop-key.invariant q)
