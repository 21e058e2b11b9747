use Rattle.std.proofs.Common.{◌≡◌, ◌+◌, ◌++◌, [], ◌∷◌, ap, sym, ◌∙◌, subst, rules, take, Err}
use Rattle.std.specs.Prelude.{IsOk}
use Rattle.std.proofs.lemmas.List.{take_more, take_all}
use Rattle.sup_posts.proofs.ItemLaws.{all_none}
use Rattle.sup_posts.proofs.GravestFaultLaws.{Told, told_item, told_fault, told_some, told_none}
use Rattle.sup_posts.proofs.telling.gravest.Goals.{in-Ok, in-Err}
use Rattle.sup_posts.proofs.telling.gravest.Goals as goal

pub loop-result-init : goal.loop-result-init
loop-result-init g c = all_none IsOk

pub loop-result-preserved : goal.loop-result-preserved
loop-result-preserved g c =
    let item = c.result-item.result in
    let results = c.args.results.now in
    let at = c.loop-result.result-index in
    let longer : take (at + 1) results ≡ take at results ++ item ∷ [] = take_more results at item c.loop-result-test.true ∙ ap (λ r. take at results ++ r ∷ []) (sym c.result-item.is) in
    subst (Told c.match-result.worst) (sym longer)
    (elim c.match-result.branch [
      | in-Ok w ↦ subst (λ v. Told v (take at results ++ item ∷ [])) (sym w.worst-is) (told_item c.loop-result.worst (take at results) item (search rules) c.loop-result.invariant)
      | in-Err w ↦
          let is : item ≡ Err w.in-Err.fault = search rules in
          subst (λ r. Told c.match-result.worst (take at results ++ r ∷ [])) (sym is)
          (subst (λ v. Told v (take at results ++ Err w.in-Err.fault ∷ [])) (sym w.worst-is)
          (told_fault c.loop-result.worst w.in-Err.fault w.graver.result (take at results) w.graver.ensures.either w.graver.ensures.above w.graver.ensures.worst c.loop-result.invariant))
    ])

pub returns-clause-some : goal.returns-clause-some
returns-clause-some g c = told_some c.loop-result.worst c.args.results.now (subst (Told c.loop-result.worst) (take_all _ c.args.results.now c.loop-result-test.false) c.loop-result.invariant)

pub returns-clause-none : goal.returns-clause-none
returns-clause-none g c = told_none c.loop-result.worst c.args.results.now (subst (Told c.loop-result.worst) (take_all _ c.args.results.now c.loop-result-test.false) c.loop-result.invariant)
