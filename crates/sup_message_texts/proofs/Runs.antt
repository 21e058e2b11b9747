-- The dots that a vector and a cloud have, as a list.
use Rattle.std.proofs.Common.{◌≡◌, ℕ, zero, suc, ◌+◌, ◌≤◌, true, ◌||◌, ◌&&◌, leb, List, [], ◌∷◌, ◌++◌, refl, sym, ap, ◌∙◌, subst, arith, inl, inr}
use mathlib.Core.Bool.{true≢false}
use Rattle.std.specs.List.{AllByRecursion}
use Rattle.std.proofs.lemmas.Bool.{or_left, or_right, or_cases, and_parts, and_from, cases_order, le-leb, leb-true}
use Rattle.std.proofs.lemmas.List.Folds.{list_any-append}
use Rattle.sup_specs.specs.Values.{Bytes, text_cmp}
use Rattle.sup_specs.specs.Rising.{rising, among}
use Rattle.sup_specs.specs.declared.limits.TheConstants.{MAX}
use Rattle.sup_causal.specs.declared.dot.Dot.{Dot}
use Rattle.sup_causal.specs.Dots.{Context, has, dot_cmp, dot_eq, IsCounted}
use Rattle.sup_causal.specs.Cut.{entry, in_run, in_runs, in_parts, IsCanonical}
use Rattle.sup_causal.proofs.DotLemmas.{dot_eq-refl, dot_eq-true, among_first, each_has}
use Rattle.sup_causal.proofs.Sorted.{pairs_rise}
use Rattle.sup_causal.proofs.CutLemmas.{in_runs_is}
use Rattle.sup_tables.proofs.OperationLaws.{both_ways}
use Rattle.sup_tables.proofs.OneForm.{has_rising}
use Rattle.sup_tables.proofs.PointLaws.{text_itself, same_text}

abbrev pub run_dots : Bytes → ℕ → List Dot
run_dots node zero = []
run_dots node (suc n) = record { counter = suc n; node = node } ∷ run_dots node n

abbrev pub vector_dots : List (Bytes × ℕ) → List Dot
vector_dots [] = []
vector_dots (e ∷ es) = run_dots e.0 e.1 ++ vector_dots es

-- the context that has them, in its one form
abbrev pub context_of : List (Bytes × ℕ) → List Dot → Context
context_of vector cloud = rising dot_cmp (vector_dots vector ++ cloud)

run_has : (node : Bytes) (n : ℕ) (d : Dot) → among dot_cmp (run_dots node n) d ≡ in_run node n d
run_has node zero d = both_ways _ _ (λ e. absurd (true≢false (sym e))) (λ e.
    let p = and_parts _ _ (and_parts _ _ e).1 in
    let low = leb-true 1 d.counter p.0 in
    let high = leb-true d.counter 0 p.1 in
    absurd (omega (arith, low, high)))
run_has node (suc n) d = among_first x (run_dots node n) d ∙ both_ways _ _ (there (run_has node n d)) (back (run_has node n d))
  where
    x : Dot
    x = record { counter = suc n; node = node }

    there : among dot_cmp (run_dots node n) d ≡ in_run node n d → (dot_eq x d || among dot_cmp (run_dots node n) d) ≡ true → in_run node (suc n) d ≡ true
    there lower e = elim (or_cases (dot_eq x d) (among dot_cmp (run_dots node n) d) e) [
      | inl same ↦ subst (λ y. in_run node (suc n) y ≡ true) (dot_eq-true x d same) (and_from _ _ (text_itself node) (and_from _ _ (le-leb 1 (suc n) (omega arith)) (le-leb (suc n) (suc n) (omega arith))))
      | inr rest ↦
          let p = and_parts _ _ (sym lower ∙ rest) in
          let q = and_parts _ _ p.1 in
          let high = leb-true d.counter n q.1 in
          and_from _ _ p.0 (and_from _ _ q.0 (le-leb d.counter (suc n) (omega (arith, high))))
    ]

    back : among dot_cmp (run_dots node n) d ≡ in_run node n d → in_run node (suc n) d ≡ true → (dot_eq x d || among dot_cmp (run_dots node n) d) ≡ true
    back lower e =
        let p = and_parts _ _ e in
        let q = and_parts _ _ p.1 in
        let node_is : d.node ≡ node = same_text d.node node p.0 in
        let high = leb-true d.counter (suc n) q.1 in
        elim (cases_order d.counter (suc n)) [
          | inl tied ↦ or_left _ _ (subst (λ y. dot_eq x y ≡ true) (λ k. record { counter = sym tied k; node = sym node_is k }) (dot_eq-refl x))
          | inr other ↦ elim other [
            | inl below ↦ or_right _ _ (lower ∙ and_from _ _ p.0 (and_from _ _ q.0 (le-leb d.counter n (omega (arith, below)))))
            | inr above ↦ absurd (omega (arith, above, high))
          ]
        ]

vector_has : (es : List (Bytes × ℕ)) (d : Dot) → among dot_cmp (vector_dots es) d ≡ in_runs es d
vector_has [] d = refl
vector_has (e ∷ es) d = list_any-append (dot_eq d) (run_dots e.0 e.1) (vector_dots es) ∙ (λ k. run_has e.0 e.1 d k || vector_has es d k)

in_runs_counted : (es : List (Bytes × ℕ)) (d : Dot) → AllByRecursion (λ e. (1 ≤ e.1) × (e.1 ≤ MAX)) es → in_runs es d ≡ true → IsCounted d
in_runs_counted [] d all e = absurd (true≢false (sym e))
in_runs_counted (x ∷ xs) d all e = elim (or_cases (in_run x.0 x.1 d) (in_runs xs d) e) [
  | inl here ↦
      let p = and_parts _ _ (and_parts _ _ here).1 in
      let low = leb-true 1 d.counter p.0 in
      let high = leb-true d.counter x.1 p.1 in
      let most = all.0.1 in
      (low, omega (arith, high, most))
  | inr rest ↦ in_runs_counted xs d all.1 rest
]

module _ (vector : List (Bytes × ℕ)) (cloud : List Dot) (canonical : IsCanonical vector cloud) where
  runs_are : (d : Dot) → in_runs vector d ≡ (leb 1 d.counter && leb d.counter (entry vector d.node))
  runs_are = in_runs_is vector (pairs_rise text_cmp vector canonical.by_name)

  -- it has just what they have
  pub has_parts : (d : Dot) → has (context_of vector cloud) d ≡ in_parts vector cloud d
  has_parts d =
      has_rising (vector_dots vector ++ cloud) d
      ∙ list_any-append (dot_eq d) (vector_dots vector) cloud
      ∙ ap (λ b. b || among dot_cmp cloud d) (vector_has vector d ∙ runs_are d)

  pub parts_counted : (d : Dot) → has (context_of vector cloud) d ≡ true → IsCounted d
  parts_counted d there = elim (or_cases (leb 1 d.counter && leb d.counter (entry vector d.node)) (among dot_cmp cloud d) (sym (has_parts d) ∙ there)) [
    | inl run ↦ in_runs_counted vector d canonical.entries (runs_are d ∙ run)
    | inr beyond ↦
        let far = each_has (λ e. (entry vector e.node + 2 ≤ e.counter) × (e.counter ≤ MAX)) cloud canonical.apart d beyond in
        let apart = far.0 in
        (omega (arith, apart), far.1)
  ]
