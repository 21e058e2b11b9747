use Rattle.std.proofs.Common.{sym, ap, ◌∙◌, ◌||◌, cond, None, take}
use Rattle.sup_dot_store.specs.ByDot.{at_dot}
use Rattle.std.specs.Ordering.{eq_by_cmp}
use Rattle.std.proofs.lemmas.Cmp.{eq_by_cmp_equiv}
use Rattle.std.proofs.lemmas.List.Folds.{list_any_more}
use Rattle.sup_specs.specs.Rising.{among}
use Rattle.sup_causal.specs.Dots.{dot_cmp}
use Rattle.sup_causal.specs.DotLaws.{dot_total}
use Rattle.sup_dot_store.proofs.Rows.{taken_more}
use Rattle.sup_dot_store.proofs.dot_fun.take_away.Goals as goal

pub loop-dot-preserved : goal.loop-dot-preserved
loop-dot-preserved g c d =
    let before = c.loop-dot.invariant d in
    let now = c.take.ensures.taken d in
    let so_far = among dot_cmp (take c.loop-dot.dot-index c.args.dots.now) d in
    let more =
    list_any_more (eq_by_cmp dot_cmp d) c.args.dots.now c.loop-dot.dot-index c.dot-item.result c.loop-dot-test.true
    ∙ ap (λ e. so_far || eq_by_cmp dot_cmp d e) (sym c.dot-item.is)
    ∙ ap (λ b. so_far || b) ((eq_by_cmp_equiv dot_total).symm d _) in
    let all = at_dot c.args.values.now d in
    taken_more _ _ all _ _ before now ∙ sym (ap (λ b. cond b None all) more)
