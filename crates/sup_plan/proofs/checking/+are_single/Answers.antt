use Rattle.std.proofs.Common.{◌≡◌, List, IsTrue, sym, subst, rules, tests}
use Rattle.std.specs.List.{list_any, IsDistinct}
use Rattle.std.specs.Prelude.{not, refl}
use Rattle.std.proofs.lemmas.Iterator.{YieldsList-from_slice}
use Rattle.std.proofs.lemmas.Iterator.Search.{any_from_yields_List}
use Rattle.sup_plan.specs.Plans.{is_same_link}
use Rattle.sup_plan.specs.declared.plan.Route.{Route}
use Rattle.sup_plan.proofs.ApartItemLaws.{apart_more, found_again, none_apart}
use Rattle.sup_plan.proofs.checking.+are_single.Goals as goal

pub returns-in_default : goal.returns-in_default
returns-in_default t c = none_apart is_same_link c.args.scripts.now c.in_default.ensures.cases

pub returns-then-not-any : goal.returns-then-not-any
returns-then-not-any t c =
    let found : c.any.result ≡ list_any (is_same_link c.in-Some.route.now) c.in-Some.others.now = any_from_yields_List (is_same_link c.in-Some.route.now) _ _ c.any.result c.any.ensures.ran (YieldsList-from_slice c.in-Some.others.now cc) (λ x b q k. search (rules, tests)) in
    subst (λ (routes : List Route). (IsTrue c.are_single.result → IsDistinct is_same_link routes) × (IsDistinct is_same_link routes → IsTrue c.are_single.result)) (sym c.in-Some.ensures.cases.0)
    (apart_more is_same_link (λ r s. is_same_link s r) (λ r s. refl) c.in-Some.route.now c.in-Some.others.now c.any.result c.are_single.result found c.if-not-any.true c.are_single.ensures)

pub returns-else-not-any : goal.returns-else-not-any
returns-else-not-any t c =
    let found : c.any.result ≡ list_any (is_same_link c.in-Some.route.now) c.in-Some.others.now = any_from_yields_List (is_same_link c.in-Some.route.now) _ _ c.any.result c.any.ensures.ran (YieldsList-from_slice c.in-Some.others.now cc) (λ x b q k. search (rules, tests)) in
    subst (λ (routes : List Route). (IsTrue (not c.any.result) → IsDistinct is_same_link routes) × (IsDistinct is_same_link routes → IsTrue (not c.any.result))) (sym c.in-Some.ensures.cases.0)
    (found_again is_same_link (λ r s. is_same_link s r) (λ r s. refl) c.in-Some.route.now c.in-Some.others.now c.any.result found c.if-not-any.false)
