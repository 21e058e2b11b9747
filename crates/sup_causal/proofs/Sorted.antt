-- Lists that rise: how they are recognised, and how a list is sorted into one.
use Rattle.std.proofs.Common.{◌≡◌, ℕ, ◌+◌, ◌<◌, Bool, true, false, ◌||◌, ◌&&◌, cond, List, [], ◌∷◌, length, get_or, refl, sym, ap, ◌∙◌, arith}
use Rattle.std.specs.Prelude.{◌↔◌, bytes_eq, nat_eq}
use Rattle.std.specs.declared.cmp.Ordering.{Ordering}
use Rattle.std.specs.declared.cmp.Ordering.TheVariants.{Less, Equal, Greater}
use Rattle.std.specs.Ordering.{nat_cmp, is_lt, is_eq, eq_by_cmp, ordering_then}
use Rattle.std.specs.Cmp.{IsTotalOrder}
use Rattle.std.specs.Cmp.{unsigned_ties}
use Rattle.std.specs.Cmp.Lexicographic.{slice_cmp, texts_ties}
use Rattle.std.specs.List.{AllByRecursion, IsAllAdjacentAnswer, list_any, dedup, dedup_from}
use Rattle.std.specs.List.Sorted.{IsStrictlySortedBy, IsSorted, IsPermutation}
use Rattle.std.specs.Map.{keys_of}
use Rattle.std.proofs.lemmas.Map.Keys.{sorted_from_all_adjacent}
use Rattle.std.proofs.lemmas.List.Sorted.{list_any-IsPermutation}
use Rattle.std.proofs.lemmas.List.Kept.{IsStrictlySortedBy-dedup}
use mathlib.Core.Bool.{false≢true}
use Rattle.sup_specs.specs.Rising.{among}
use Rattle.sup_causal.specs.declared.dot.Dot.{Dot}
use Rattle.sup_causal.specs.Dots.{dot_cmp, dot_eq, IsCounted, IsKept}
use Rattle.sup_causal.specs.DotLaws.{dot_total, dot_exact}
use Rattle.sup_causal.proofs.Rising.{rising_at}
use Rattle.sup_causal.proofs.DotLemmas.{each_has, each_from_has, equal_from_is_eq}

-- a list of pairs whose keys rise
each_key : {K X : Type 0} (P : K → Type 0) (es : List (K × X)) → AllByRecursion P (keys_of es) → AllByRecursion (λ e. P e.0) es
each_key P [] all = tt
each_key P (e ∷ es) all = (all.0, each_key P es all.1)

key_each : {K X : Type 0} (P : K → Type 0) (es : List (K × X)) → AllByRecursion (λ e. P e.0) es → AllByRecursion P (keys_of es)
key_each P [] all = tt
key_each P (e ∷ es) all = (all.0, key_each P es all.1)

pub pairs_rise : {K X : Type 0} (R : K → K → Ordering) (es : List (K × X)) → IsStrictlySortedBy R (keys_of es) → IsStrictlySortedBy (λ (a b : K × X). R a.0 b.0) es
unfolding IsStrictlySortedBy
pairs_rise R [] s = tt
pairs_rise R (e ∷ es) s = (each_key (λ k. R e.0 k ≡ Less) es s.0, pairs_rise R es s.1)

pub keys_rise_from_pairs : {K X : Type 0} (R : K → K → Ordering) (es : List (K × X)) → IsStrictlySortedBy (λ (a b : K × X). R a.0 b.0) es → IsStrictlySortedBy R (keys_of es)
unfolding IsStrictlySortedBy
keys_rise_from_pairs R [] s = tt
keys_rise_from_pairs R (e ∷ es) s = (key_each (λ k. R e.0 k ≡ Less) es s.0, keys_rise_from_pairs R es s.1)

pub less_from_is_lt : (o : Ordering) → is_lt o ≡ true → o ≡ Less
less_from_is_lt Less e = refl
less_from_is_lt Equal e = absurd (false≢true e)
less_from_is_lt Greater e = absurd (false≢true e)

-- neighbours that rise
module _ {K : Type 0} {R : K → K → Ordering} (total : IsTotalOrder R) where
  rising_from_adjacent : (xs : List K) → ((k : ℕ) (d : K) → k + 1 < length xs → true ≡ is_lt (R (get_or xs k d) (get_or xs (k + 1) d))) → IsStrictlySortedBy R xs
  unfolding IsStrictlySortedBy
  rising_from_adjacent [] h = tt
  rising_from_adjacent (x ∷ xs) h = sorted_from_all_adjacent total (x ∷ xs) x (λ k within. less_from_is_lt _ (sym (h k x within)))

  adjacent_falls : (xs : List K) → IsStrictlySortedBy R xs → (k : ℕ) → k + 1 < length xs → ((d : K) → false ≡ is_lt (R (get_or xs k d) (get_or xs (k + 1) d))) → ⊥
  unfolding IsStrictlySortedBy
  adjacent_falls [] s k within h = absurd (omega (arith, within))
  adjacent_falls (x ∷ xs) s k within h = false≢true (h x ∙ ap is_lt (rising_at total (x ∷ xs) s k (k + 1) x (omega arith) within))

  pub rising_answer : (xs : List K) (r : Bool) → IsAllAdjacentAnswer (λ x y b. b ≡ is_lt (R x y)) xs r → (r ≡ true) ↔ IsStrictlySortedBy R xs
  unfolding IsStrictlySortedBy
  rising_answer xs true answer = (λ _. rising_from_adjacent xs answer, λ _. refl)
  rising_answer xs false answer = (λ wrong. absurd (false≢true wrong), λ s. absurd (adjacent_falls xs s answer.0 answer.1 answer.2))

-- what passes a test is not lost where neighbours that are one are left out
module _ {K : Type 0} (same : K → K → Bool) (one : (x y : K) → same x y ≡ true → x ≡ y) (test : K → Bool) where
  or_twice : (a b : Bool) → (a || b) ≡ (a || (a || b))
  or_twice true b = refl
  or_twice false b = refl

  any-dedup_from : (x : K) (xs : List K) → list_any test (dedup_from same x xs) ≡ (test x || list_any test xs)
  any-dedup_from x [] = refl
  any-dedup_from x (y ∷ ys) = at (same y x) refl (any-dedup_from x ys) (any-dedup_from y ys)
    where
      at : (b : Bool) → same y x ≡ b → list_any test (dedup_from same x ys) ≡ (test x || list_any test ys) → list_any test (dedup_from same y ys) ≡ (test y || list_any test ys)
          → list_any test (cond b (dedup_from same x ys) (x ∷ dedup_from same y ys)) ≡ (test x || (test y || list_any test ys))
      at true e here later = here ∙ or_twice (test x) (list_any test ys) ∙ ap (λ z. test x || (test z || list_any test ys)) (sym (one y x e))
      at false e here later = ap (λ b. test x || b) later

  pub any-dedup : (xs : List K) → list_any test (dedup same xs) ≡ list_any test xs
  any-dedup [] = refl
  any-dedup (x ∷ xs) = any-dedup_from x xs

-- the derived comparison of dots
abbrev pub same_dot : Dot → Dot → Bool
same_dot a b = nat_eq a.counter b.counter && bytes_eq a.node b.node

then_ties : (o r : Ordering) → (is_eq o && is_eq r) ≡ is_eq (ordering_then o r)
then_ties Less r = refl
then_ties Equal r = refl
then_ties Greater r = refl

pub dots_tie : (a b : Dot) → same_dot a b ≡ eq_by_cmp dot_cmp a b
dots_tie a b = (λ k. unsigned_ties a.counter b.counter k && texts_ties a.node b.node k) ∙ then_ties (nat_cmp a.counter b.counter) (slice_cmp nat_cmp a.node b.node)

pub sorted_has : (xs ys : List Dot) → IsPermutation xs ys → (d : Dot) → among dot_cmp (dedup same_dot ys) d ≡ among dot_cmp xs d
sorted_has xs ys moved d =
    any-dedup same_dot (λ x y e. dot_exact x y (equal_from_is_eq _ (sym (dots_tie x y) ∙ e))) (dot_eq d) ys
    ∙ sym (list_any-IsPermutation (dot_eq d) xs ys moved)

pub sorted_kept : (xs ys : List Dot) → IsPermutation xs ys → IsSorted dot_cmp ys → AllByRecursion IsCounted xs → IsKept (dedup same_dot ys)
sorted_kept xs ys moved sorted counted = record {
  rising = IsStrictlySortedBy-dedup dot_total dots_tie ys sorted;
  counted = each_from_has IsCounted (dedup same_dot ys) (λ d there. each_has IsCounted xs counted d (sym (sorted_has xs ys moved d) ∙ there));
}
