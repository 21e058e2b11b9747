use Rattle.std.proofs.Common.{sym, ap, subst, ◌∙◌}
use Rattle.std.specs.List.{insert}
use Rattle.std.specs.List.Sorted.{IsBinarySearchResult}
use Rattle.std.proofs.Common.{Err}
use Rattle.sup_causal.specs.Dots.{dot_cmp}
use Rattle.sup_dot_store.specs.ByDot.{at_dot}
use Rattle.sup_dot_store.proofs.ShortLaws.{Rises, found_at, found, not_there, put_rises, put_at}
use Rattle.sup_dot_store.proofs.short_values.ShortValues.put.Goals as goal

pub returns-in_default-clause-put : goal.returns-in_default-clause-put
returns-in_default-clause-put g c d =
    let value = c.deref.ensures.value in
    let here = found c.deref.result.now (subst Rises (sym value) c.self.invariant) c.args.dot c.in_default.field-0 (c.args.dot, c.args.value) c.in_default.ensures.bound (c.in_default.ensures.position (c.args.dot, c.args.value)) in
    absurd (not_there (ap (λ m. at_dot m c.args.dot) c.self.view_is ∙ c.requires) (ap (λ es. found_at es c.args.dot) (sym value) ∙ here))

pub returns-in_default-clause-count : goal.returns-in_default-clause-count
returns-in_default-clause-count g c =
    let value = c.deref.ensures.value in
    let here = found c.deref.result.now (subst Rises (sym value) c.self.invariant) c.args.dot c.in_default.field-0 (c.args.dot, c.args.value) c.in_default.ensures.bound (c.in_default.ensures.position (c.args.dot, c.args.value)) in
    absurd (not_there (ap (λ m. at_dot m c.args.dot) c.self.view_is ∙ c.requires) (ap (λ es. found_at es c.args.dot) (sym value) ∙ here))

pub invariant_of-self-2 : goal.invariant_of-self-2
invariant_of-self-2 g c =
    let value = c.deref.ensures.value in
    let put = c.in_ok-insert.ensures.items ∙ ap (λ es. insert es c.in-Err.at (c.args.dot, c.args.value)) c.in_ok-reserve_exact.ensures.items in
    let parted = subst (λ es. IsBinarySearchResult (λ e. dot_cmp e.0 c.args.dot) es (Err c.in-Err.at)) value c.in-Err.ensures.position in
    subst Rises (sym put) (put_rises c.self.inside.items.items c.self.invariant c.args.dot c.args.value c.in-Err.at parted)

pub returns-clause-put : goal.returns-clause-put
returns-clause-put g c d =
    let es = c.self.inside.items.items in
    let put = c.in_ok-insert.ensures.items ∙ ap (λ es. insert es c.in-Err.at (c.args.dot, c.args.value)) c.in_ok-reserve_exact.ensures.items in
    let view = ap (λ m. m.entries) c.self.view_is in
    ap (λ es. found_at es d) put
    ∙ ap (λ es. found_at (insert es c.in-Err.at (c.args.dot, c.args.value)) d) view
    ∙ put_at c.args.self.now.entries c.args.dot c.args.value c.in-Err.at c.requires d

pub returns-clause-ordered : goal.returns-clause-ordered
returns-clause-ordered g c = invariant_of-self-2 g c
