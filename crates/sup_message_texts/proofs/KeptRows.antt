-- Rows that rise stand one at a place, so a state may have them.
use Rattle.std.proofs.Common.{◌≡◌, true, List, [], ◌∷◌, Option, Some, None, refl, sym, ap, ◌∙◌, subst, inl, inr}
use mathlib.Core.Bool.{true≢false}
use Rattle.std.specs.declared.cmp.Ordering.{Ordering}
use Rattle.std.specs.declared.cmp.Ordering.TheVariants.{Less, Equal}
use Rattle.std.specs.List.{AllByRecursion}
use Rattle.std.specs.Ordering.{ordering_then, eq_by_cmp, nat_cmp}
use Rattle.std.proofs.lemmas.Bool.{or_cases}
use Rattle.std.proofs.lemmas.Cmp.{tied_itself}
use Rattle.std.proofs.lemmas.List.Elements.{recursion_from_All}
use Rattle.sup_specs.specs.Values.{text_cmp}
use Rattle.std.specs.List.Sorted.{IsStrictlySortedBy}
use Rattle.sup_specs.specs.Rising.{among}
use Rattle.sup_causal.specs.Dots.{Context, has, dot_cmp}
use Rattle.sup_tables.specs.declared.row.Row.{Row}
use Rattle.sup_tables.specs.Rows.{table_place, table_of, key_of, place_cmp, row_cmp, AreInOrder}
use Rattle.sup_tables.specs.RowLaws.{place_total}
use Rattle.sup_tables.specs.States.{HasDotsOf, row_at, is_point, IsKept}
use Rattle.sup_tables.proofs.AddLaws.{same_row}
use Rattle.sup_tables.proofs.OrderedRows.{rising_already, all_row_less}
use Rattle.sup_tables.proofs.PointLaws.{find_some, find_none, at_point, point_itself}

less_is_not_equal : (o : Ordering) → o ≡ Less → o ≡ Equal → ⊥
less_is_not_equal o e f = let bad : Less ≡ Equal = sym e ∙ f in cc

each_among : (P : Row → Type 0) (rows : List Row) → AllByRecursion P rows → (r : Row) → among row_cmp rows r ≡ true → P r
each_among P [] all r there = absurd (true≢false (sym there))
each_among P (x ∷ xs) all r there = elim (or_cases (eq_by_cmp row_cmp r x) (among row_cmp xs r) there) [
  | inl here ↦ subst P (sym (same_row r x here)) all.0
  | inr later ↦ each_among P xs all.1 r later
]

-- no two rows that rise stand at one place
one_at_place : (rows : List Row) → AreInOrder rows → (q r : Row) → among row_cmp rows q ≡ true → among row_cmp rows r ≡ true → place_cmp q r ≡ Equal → place_cmp r q ≡ Equal → q ≡ r
unfolding IsStrictlySortedBy
one_at_place [] rises q r has_q has_r e f = absurd (true≢false (sym has_q))
one_at_place (x ∷ xs) rises q r has_q has_r e f = elim (or_cases (eq_by_cmp row_cmp q x) (among row_cmp xs q) has_q) [
  | inl q_first ↦ elim (or_cases (eq_by_cmp row_cmp r x) (among row_cmp xs r) has_r) [
    | inl r_first ↦ same_row q x q_first ∙ sym (same_row r x r_first)
    | inr r_later ↦ absurd (less_is_not_equal (place_cmp x r) (each_among (λ y. place_cmp x y ≡ Less) xs rises.0 r r_later) (ap (λ y. place_cmp y r) (sym (same_row q x q_first)) ∙ e))
  ]
  | inr q_later ↦ elim (or_cases (eq_by_cmp row_cmp r x) (among row_cmp xs r) has_r) [
    | inl r_first ↦ absurd (less_is_not_equal (place_cmp x q) (each_among (λ y. place_cmp x y ≡ Less) xs rises.0 q q_later) (ap (λ y. place_cmp y q) (sym (same_row r x r_first)) ∙ f))
    | inr r_later ↦ one_at_place xs rises.1 q r q_later r_later e f
  ]
]

rise_by_row : (rows : List Row) → AreInOrder rows → IsStrictlySortedBy row_cmp rows
unfolding IsStrictlySortedBy
rise_by_row [] rises = tt
rise_by_row (r ∷ rs) rises = (all_row_less r rs rises.0, rise_by_row rs rises.1)

single : (rows : List Row) → AreInOrder rows → (r : Row) → among row_cmp rows r ≡ true → row_at rows r.dot (table_of r.entry) (key_of r.entry) ≡ Some r
unfolding IsStrictlySortedBy
single rows rises r there = found (row_at rows r.dot (table_of r.entry) (key_of r.entry)) refl
  where
    found : (o : Option Row) → row_at rows r.dot (table_of r.entry) (key_of r.entry) ≡ o → o ≡ Some r
    found None e = absurd (true≢false (sym (point_itself r) ∙ find_none (is_point r.dot (table_of r.entry) (key_of r.entry)) rows e r there))
    found (Some q) e =
        let is = find_some (is_point r.dot (table_of r.entry) (key_of r.entry)) rows q e in
        let at = at_point r.dot (table_of r.entry) (key_of r.entry) q is.1 in
        let there_q : place_cmp q r ≡ place_cmp r r = λ i. ordering_then (ordering_then (nat_cmp (table_place (sym at.table i)) (table_place (table_of r.entry))) (text_cmp (sym at.key i) (key_of r.entry))) (dot_cmp (sym at.dot i) r.dot) in
        let q_there : place_cmp r q ≡ place_cmp r r = λ i. ordering_then (ordering_then (nat_cmp (table_place (table_of r.entry)) (table_place (sym at.table i))) (text_cmp (key_of r.entry) (sym at.key i))) (dot_cmp r.dot (sym at.dot i)) in
        ap Some (one_at_place rows rises q r is.0 there (there_q ∙ tied_itself place_total r) (q_there ∙ tied_itself place_total r))

-- rows in order, under a context that has their dots
pub in_order_kept : (context : Context) (rows : List Row) → AreInOrder rows → HasDotsOf context rows → IsKept (record { context = context; rows = rows })
in_order_kept context rows rises covered = record {
  rising = rising_already row_cmp rows (rise_by_row rows rises);
  single = single rows rises;
  covered = each_among (λ r. has context r.dot ≡ true) rows (recursion_from_All (λ r. has context r.dot ≡ true) rows covered);
}
