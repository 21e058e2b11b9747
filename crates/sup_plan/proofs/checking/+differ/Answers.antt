use Rattle.std.proofs.Common.{◌≡◌, List, IsTrue, sym, subst}
use Rattle.std.specs.List.{list_any, IsDistinct}
use Rattle.std.specs.Str.{bytes_eq}
use Rattle.std.specs.Cmp.Lexicographic.{nat_list_eq_equiv}
use Rattle.std.specs.Prelude.{not}
use Rattle.sup_specs.specs.Values.{Bytes}
use Rattle.sup_plan.proofs.ApartItemLaws.{apart_more, found_again, none_apart}
use Rattle.sup_plan.proofs.checking.+differ.Goals as goal

pub returns-in_default : goal.returns-in_default
returns-in_default t c = none_apart bytes_eq c.args.names.now c.in_default.ensures.cases

pub returns-then-not-contains : goal.returns-then-not-contains
returns-then-not-contains t c =
    let found : c.contains.result ≡ list_any (λ other. bytes_eq other c.in-Some.name.now) c.in-Some.others.now = c.contains.ensures.value in
    subst (λ (names : List Bytes). (IsTrue c.differ.result → IsDistinct bytes_eq names) × (IsDistinct bytes_eq names → IsTrue c.differ.result)) (sym c.in-Some.ensures.cases.0)
    (apart_more bytes_eq bytes_eq nat_list_eq_equiv.symm c.in-Some.name.now c.in-Some.others.now c.contains.result c.differ.result found c.if-not-contains.true c.differ.ensures)

pub returns-else-not-contains : goal.returns-else-not-contains
returns-else-not-contains t c =
    let found : c.contains.result ≡ list_any (λ other. bytes_eq other c.in-Some.name.now) c.in-Some.others.now = c.contains.ensures.value in
    subst (λ (names : List Bytes). (IsTrue (not c.contains.result) → IsDistinct bytes_eq names) × (IsDistinct bytes_eq names → IsTrue (not c.contains.result))) (sym c.in-Some.ensures.cases.0)
    (found_again bytes_eq bytes_eq nat_list_eq_equiv.symm c.in-Some.name.now c.in-Some.others.now c.contains.result found c.if-not-contains.false)
