-- The dots of parts, as a context: what it has, and that it rises.
use Rattle.std.proofs.Common.{◌≡◌, ℕ, suc, zero, ◌+◌, ◌≤◌, Bool, true, false, ◌||◌, ◌&&◌, leb, eqb, List, [], ◌∷◌, ◌++◌, refl, sym, ap, ◌∙◌, arith, inl, inr}
use Rattle.std.specs.Ordering.{eq_by_cmp}
use Rattle.std.proofs.lemmas.Bool.{or_cases, and_parts, leb-true}
use Rattle.std.proofs.lemmas.Bool.Decides.{nat_tests}
use Rattle.std.proofs.lemmas.Cmp.{eq_by_cmp_equiv, nat_list_cmp_total}
use Rattle.std.proofs.lemmas.List.Folds.{list_any-append}
use Rattle.std.specs.List.Sorted.{IsStrictlySortedBy}
use Rattle.sup_specs.specs.Rising.{among}
use Rattle.sup_specs.proofs.RisingLaws.{among-rising, rising_rises}
use Rattle.sup_specs.specs.Values.{text_cmp}
use Rattle.sup_specs.specs.declared.limits.TheConstants.{MAX}
use Rattle.sup_causal.specs.declared.dot.Dot.{Dot}
use Rattle.sup_causal.specs.Dots.{has, dot_cmp, dot_eq, IsCounted, IsKept}
use Rattle.sup_causal.specs.DotLaws.{dot_total}
use Rattle.sup_causal.specs.Cut.{entry, IsCanonical, in_run, in_runs, in_parts}
use Rattle.sup_causal.proofs.Union.{each_weaker}
use Rattle.sup_causal.proofs.Sorted.{pairs_rise}
use Rattle.sup_causal.proofs.CutLemmas.{in_runs_is, uncounted}
use Rattle.sup_causal.proofs.DotLemmas.{among_first, each_has}
use Rattle.sup_causal.specs.Parts.{in_vector, run_dots, runs_dots, dots_of}
use Rattle.sup_causal.proofs.Versions.{entry_most}
use Rattle.sup_causal.proofs.Cuts.{dot_parts}

pub dots_rise : (v : List (List ℕ × ℕ)) (c : List Dot) → IsStrictlySortedBy dot_cmp (dots_of v c)
unfolding dots_of
dots_rise v c = rising_rises dot_cmp dot_total (runs_dots v ++ c)

-- ---- what parts have
none_of_none : (c : ℕ) (b : Bool) → false ≡ (b && (leb 1 c && leb c 0))
none_of_none c true = grind (arith, nat_tests)
none_of_none c false = refl

one_more : (b : Bool) (n c : ℕ) → ((eqb (suc n) c && b) || (b && (leb 1 c && leb c n))) ≡ (b && (leb 1 c && leb c (suc n)))
one_more true n c = grind (arith, nat_tests)
one_more false n c = grind (arith, nat_tests)

pub has_run : (node : List ℕ) (n : ℕ) (d : Dot) → among dot_cmp (run_dots node n) d ≡ in_run node n d
has_run node zero d = none_of_none d.counter (eq_by_cmp text_cmp d.node node)
has_run node (suc n) d =
    among_first (record { counter = suc n; node = node }) (run_dots node n) d
    ∙ (λ k. (dot_parts (record { counter = suc n; node = node }) d ∙ ap (λ b. eqb (suc n) d.counter && b) ((eq_by_cmp_equiv nat_list_cmp_total).symm node d.node)) k || has_run node n d k)
    ∙ one_more (eq_by_cmp text_cmp d.node node) n d.counter

pub has_runs : (v : List (List ℕ × ℕ)) (d : Dot) → among dot_cmp (runs_dots v) d ≡ in_runs v d
has_runs [] d = refl
has_runs (e ∷ es) d = list_any-append (dot_eq d) (run_dots e.0 e.1) (runs_dots es) ∙ (λ k. has_run e.0 e.1 d k || has_runs es d k)

pub has_dots : (v : List (List ℕ × ℕ)) (c : List Dot) → IsCanonical v c → (d : Dot) → has (dots_of v c) d ≡ in_parts v c d
unfolding dots_of has
has_dots v c canonical d =
    among-rising dot_cmp dot_total (runs_dots v ++ c) d
    ∙ list_any-append (dot_eq d) (runs_dots v) c
    ∙ ap (λ b. b || among dot_cmp c d) (has_runs v d ∙ in_runs_is v (pairs_rise text_cmp v canonical.by_name) d)

-- of a kept context
pub has_kept : (context v : _) (c : List Dot) → IsCanonical v c → dots_of v c ≡ context → (d : Dot) → has context d ≡ in_parts v c d
has_kept context v c canonical is d = ap (λ dots. has dots d) (sym is) ∙ has_dots v c canonical d

-- ---- they are counted
pub cloud_kept : (v : List (List ℕ × ℕ)) (c : List Dot) → IsCanonical v c → IsKept c
cloud_kept v c canonical = record {
  rising = canonical.in_order;
  counted = each_weaker (λ d. (entry v d.node + 2 ≤ d.counter) × (d.counter ≤ MAX)) IsCounted (λ d far. (omega (arith, far.0), far.1)) c canonical.apart;
}

pub parts_counted : (v : List (List ℕ × ℕ)) (c : List Dot) → IsCanonical v c → (d : Dot) → in_parts v c d ≡ true → IsCounted d
parts_counted v c canonical d there = elim (or_cases (in_vector v d) (among dot_cmp c d) there) [
  | inl run ↦
      let both = and_parts (leb 1 d.counter) (leb d.counter (entry v d.node)) run in
      let most : entry v d.node ≤ MAX = entry_most v canonical.entries d.node in
      let low : 1 ≤ d.counter = leb-true _ _ both.0 in
      let high : d.counter ≤ entry v d.node = leb-true _ _ both.1 in
      (low, omega (arith, most, high))
  | inr cloud ↦ each_has IsCounted c (cloud_kept v c canonical).counted d cloud
]

pub none_in_empty : (d : Dot) → in_vector [] d ≡ false
none_in_empty d = uncounted d.counter
