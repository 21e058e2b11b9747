use Rattle.std.proofs.Common.{sym, ap, subst, ◌∙◌}
use Rattle.std.specs.List.{remove}
use Rattle.sup_dot_store.specs.ByDot.{at_dot}
use Rattle.sup_dot_store.proofs.ShortLaws.{Rises, found_at, taken_from, missed, not_some, none_taken, take_rises, take_at}
use Rattle.sup_dot_store.proofs.short_values.ShortValues.take.Goals as goal

pub invariant_of-self : goal.invariant_of-self
invariant_of-self g c = subst Rises (sym c.remove.ensures.items) (take_rises c.self.inside.items.items c.self.invariant c.in-Ok.at)

pub returns-in-Ok-clause-taken : goal.returns-in-Ok-clause-taken
returns-in-Ok-clause-taken g c d =
    let q = c.args.dot.now in
    let value = c.deref.ensures.value in
    let e = c.remove.result in
    ap (λ es. found_at es d) (c.remove.ensures.items ∙ ap (λ es. remove es c.in-Ok.at) (sym value))
    ∙ take_at c.deref.result.now (subst Rises (sym value) c.self.invariant) q c.in-Ok.at e c.in-Ok.ensures.bound (c.in-Ok.ensures.position e) d
    ∙ ap (λ es. taken_from es q d) (value ∙ ap (λ m. m.entries) c.self.view_is)

pub returns-in-Ok-clause-ordered : goal.returns-in-Ok-clause-ordered
returns-in-Ok-clause-ordered g c = invariant_of-self g c

pub returns-in_default-clause-taken : goal.returns-in_default-clause-taken
returns-in_default-clause-taken g c d =
    let q = c.args.dot.now in
    let value = c.deref.ensures.value in
    let none = missed c.deref.result.now (subst Rises (sym value) c.self.invariant) q c.in_default.field-0 c.in_default.ensures.position in
    none_taken c.args.self.now.entries q (ap (λ m. at_dot m q) (sym c.self.view_is) ∙ ap (λ es. found_at es q) (sym value) ∙ none) d

pub returns-in_default-clause-count : goal.returns-in_default-clause-count
returns-in_default-clause-count g c some =
    let q = c.args.dot.now in
    let value = c.deref.ensures.value in
    let none = missed c.deref.result.now (subst Rises (sym value) c.self.invariant) q c.in_default.field-0 c.in_default.ensures.position in
    absurd (not_some (ap (λ m. at_dot m q) (sym c.self.view_is) ∙ ap (λ es. found_at es q) (sym value) ∙ none) some)
