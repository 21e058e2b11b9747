use Rattle.std.proofs.Common.{ap, ◌∙◌, ◌++◌, [], ◌∷◌}
use Rattle.sup_dot_store.proofs.ShortLaws.{one_rises}
use Rattle.sup_dot_store.proofs.short_values.ShortValues.single.Goals as goal

pub invariant_of-result : goal.invariant_of-result
invariant_of-result g c =
    one_rises c.push.new.self.items (c.args.dot, c.args.value) (c.in_ok-push.ensures.items ∙ ap (λ es. es ++ (c.args.dot, c.args.value) ∷ []) c.in_ok-items.ensures.items)
