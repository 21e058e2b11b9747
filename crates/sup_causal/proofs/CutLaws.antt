-- That runs and the rest are a set's cut, and that canonical parts are just the cuts.
use Rattle.std.proofs.Common.{◌≡◌, ℕ, ◌+◌, ◌<◌, ◌≤◌, Bool, true, false, ◌&&◌, leb, List, [], ◌∷◌, get_or, refl, sym, ap, ◌∙◌, subst, arith, inl, inr}
use Rattle.std.specs.List.{AllByRecursion}
use Rattle.std.proofs.lemmas.Bool.{both_ways, or_left, or_right, or_cases, or_from, and_from, cases_order, false_from_ne_true, le-leb, lt-leb}
use Rattle.std.proofs.lemmas.Cmp.{nat_list_cmp_total, tied_itself}
use Rattle.std.proofs.lemmas.List.Elements.{recursion_from_All, All-from_recursion}
use Rattle.sup_specs.specs.Rising.{among}
use Rattle.sup_causal.specs.declared.dot.Dot.{Dot}
use Rattle.sup_specs.specs.declared.limits.TheConstants.{MAX}
use Rattle.sup_causal.specs.Dots.{dot_cmp, IsCounted}
use Rattle.sup_specs.specs.Values.{text_cmp}
use Rattle.sup_causal.specs.Cut.{entry, IsRun, IsVector, IsCloud, IsCanonical, in_parts}
use Rattle.sup_causal.proofs.DotLemmas.{each_has, each_from_has}
use Rattle.sup_causal.proofs.Sorted.{pairs_rise}
use Rattle.sup_causal.proofs.CutLemmas.{run_is_one, entry_found}

-- ---- canonical parts are the cut of what they have
module _ (holds : Dot → Bool) (vector : List (List ℕ × ℕ)) (cloud : List Dot) (canonical : IsCanonical vector cloud) (same : (d : Dot) → holds d ≡ in_parts vector cloud d) where
  in_cloud : (d : Dot) → among dot_cmp cloud d ≡ true → (entry vector d.node + 2 ≤ d.counter) × (d.counter ≤ MAX)
  in_cloud d there = each_has (λ e. (entry vector e.node + 2 ≤ e.counter) × (e.counter ≤ MAX)) cloud canonical.apart d there

  past_run : (d : Dot) → entry vector d.node < d.counter → (leb 1 d.counter && leb d.counter (entry vector d.node)) ≡ false
  past_run d above = ap (λ b. leb 1 d.counter && b) (lt-leb _ _ above) ∙ and-false (leb 1 d.counter)
    where
      and-false : (b : Bool) → (b && false) ≡ false
      and-false true = refl
      and-false false = refl

  pub runs_are : (node : List ℕ) → IsRun holds node (entry vector node)
  runs_are node = record {
    all_there = λ k low high. same (record { counter = k; node = node }) ∙ or_left _ _ (and_from _ _ (le-leb _ _ low) (le-leb _ _ high));
    next_missing = same (record { counter = entry vector node + 1; node = node }) ∙ or_from _ _ (past_run (record { counter = entry vector node + 1; node = node }) (omega arith)) (false_from_ne_true _ (λ there.
        let far = in_cloud (record { counter = entry vector node + 1; node = node }) there in omega (arith, far.0)));
  }

  pub vector_of_parts : IsVector holds vector
  vector_of_parts = record { by_name = canonical.by_name; runs = runs_are; left_out = firsts vector canonical.entries }
    where
      firsts : (es : List (List ℕ × ℕ)) → AllByRecursion (λ e. (1 ≤ e.1) × (e.1 ≤ MAX)) es → AllByRecursion (λ e. 1 ≤ e.1) es
      firsts [] all = tt
      firsts (e ∷ es) all = (all.0.0, firsts es all.1)

  pub cloud_of_parts : IsCloud holds cloud
  cloud_of_parts = record {
    in_order = canonical.in_order;
    beyond = λ d. (
      λ there. (same d ∙ or_right _ _ there, λ n run. let is : entry vector d.node ≡ n = run_is_one holds d.node _ n (runs_are d.node) run in let far = in_cloud d there in omega (arith, is, far.0)),
      λ h. elim (or_cases (leb 1 d.counter && leb d.counter (entry vector d.node)) (among dot_cmp cloud d) (sym (same d) ∙ h.0)) [
        | inl inside ↦ absurd (both_ways _ (past_run d (h.1 _ (runs_are d.node))) inside)
        | inr there ↦ there
      ],
    );
  }

-- ---- and a cut is canonical
module _ (holds : Dot → Bool) (counted : (d : Dot) → holds d ≡ true → IsCounted d) (vector : List (List ℕ × ℕ)) (cloud : List Dot) (is_vector : IsVector holds vector) (is_cloud : IsCloud holds cloud) where
  pub cut_canonical : IsCanonical vector cloud
  cut_canonical = record {
    by_name = is_vector.by_name;
    entries = recursion_from_All (λ (e : List ℕ × ℕ). (1 ≤ e.1) × (e.1 ≤ MAX)) vector (λ k d within.
        let low : 1 ≤ (get_or vector k d).1 = All-from_recursion (λ (e : List ℕ × ℕ). 1 ≤ e.1) vector is_vector.left_out k d within in
        let is : entry vector (get_or vector k d).0 ≡ (get_or vector k d).1 = entry_found vector (pairs_rise text_cmp vector is_vector.by_name) k (get_or vector k d).0 d within (tied_itself nat_list_cmp_total (get_or vector k d).0) in
        let last : IsCounted (record { counter = (get_or vector k d).1; node = (get_or vector k d).0 }) = counted (record { counter = (get_or vector k d).1; node = (get_or vector k d).0 }) ((is_vector.runs (get_or vector k d).0).all_there (get_or vector k d).1 low (omega (arith, is))) in
        (low, last.1));
    in_order = is_cloud.in_order;
    apart = each_from_has (λ d. (entry vector d.node + 2 ≤ d.counter) × (d.counter ≤ MAX)) cloud far;
  }
    where
      far : (d : Dot) → among dot_cmp cloud d ≡ true → (entry vector d.node + 2 ≤ d.counter) × (d.counter ≤ MAX)
      far d there =
          let rest = (is_cloud.beyond d).0 there in
          let above : entry vector d.node < d.counter = rest.1 (entry vector d.node) (is_vector.runs d.node) in
          let limit : IsCounted d = counted d rest.0 in
          elim (cases_order (entry vector d.node + 1) d.counter) [
            | inl next ↦ absurd (both_ways (holds d) (subst (λ e. holds e ≡ false) (λ k. record { counter = next k; node = d.node }) (is_vector.runs d.node).next_missing) rest.0)
            | inr other ↦ elim other [ inl below ↦ (omega (arith, below), limit.1) | inr none ↦ absurd (omega (arith, none, above)) ]
          ]
