use Rattle.std.proofs.Common.{sym, ap, subst, ◌∙◌, Some, get_or}
use Rattle.sup_dot_store.specs.ByDot.{at_dot}
use Rattle.sup_dot_store.proofs.ShortLaws.{Rises, found_at, found, missed}
use Rattle.sup_dot_store.proofs.short_values.ShortValues.get.Goals as goal

pub returns-in-Ok : goal.returns-in-Ok
returns-in-Ok g c =
    let q = c.args.dot.now in
    let d = c.index.result.now in
    let value = c.deref.ensures.value in
    let here = found c.deref.result.now (subst Rises (sym value) c.self.invariant) q c.in-Ok.at d c.in-Ok.ensures.bound (c.in-Ok.ensures.position d) in
    ap (λ e. Some e.1) (c.index.ensures ∙ ap (λ es. get_or es c.in-Ok.at d) (sym value)) ∙ sym here ∙ ap (λ es. found_at es q) value ∙ ap (λ m. at_dot m q) c.self.view_is

pub returns-in-Err : goal.returns-in-Err
returns-in-Err g c =
    let q = c.args.dot.now in
    let value = c.deref.ensures.value in
    sym (missed c.deref.result.now (subst Rises (sym value) c.self.invariant) q c.in-Err.field-0 c.in-Err.ensures.position) ∙ ap (λ es. found_at es q) value ∙ ap (λ m. at_dot m q) c.self.view_is
