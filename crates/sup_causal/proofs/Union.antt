-- The union of two rising lists, as one pass over both makes it.
use Rattle.std.proofs.Common.{◌≡◌, ℕ, ◌+◌, ◌<◌, ◌≤◌, Bool, true, false, ◌||◌, List, [], ◌∷◌, ◌++◌, length, get_or, drop, refl, sym, ap, ◌∙◌, subst, arith, ◌⊎◌, inl, inr, append_assoc}
use Rattle.std.proofs.lemmas.List.{drop_more, drop_all, append-nil, get_or_read}
use Rattle.std.specs.declared.cmp.Ordering.{Ordering}
use Rattle.std.specs.declared.cmp.Ordering.TheVariants.{Less, Equal, Greater}
use Rattle.std.specs.FinMap.Entries.{by_order}
use Rattle.std.specs.Cmp.{IsTotalOrder}
use Rattle.std.specs.List.{AllByRecursion, list_any}
use Rattle.sup_specs.specs.Exact.{IsExact}
use Rattle.std.specs.List.Sorted.{IsStrictlySortedBy}
use Rattle.sup_causal.proofs.Rising.{less_from_greater}

pub each_weaker : {K : Type 0} (P Q : K → Type 0) → ((x : K) → P x → Q x) → (xs : List K) → AllByRecursion P xs → AllByRecursion Q xs
each_weaker P Q h [] all = tt
each_weaker P Q h (x ∷ xs) all = (h x all.0, each_weaker P Q h xs all.1)

or_same : (a b c : Bool) → (a || (b || c)) ≡ (a || (b || (a || c)))
or_same true b c = refl
or_same false b c = refl

or_turned : (a b c d : Bool) → (a || (b || (c || d))) ≡ (b || (c || (a || d)))
or_turned true true c d = refl
or_turned true false true d = refl
or_turned true false false d = refl
or_turned false b c d = refl

-- the rest of a list from a place on
pub at_place : {K : Type 0} (xs : List K) (i : ℕ) (x : K) → i < length xs → x ≡ get_or xs i x → drop i xs ≡ x ∷ drop (i + 1) xs
at_place xs i x within is = drop_more xs i x within ∙ ap (λ z. z ∷ drop (i + 1) xs) (sym is)

-- what is read twice at a place
pub same_place : {K : Type 0} (xs : List K) (i : ℕ) (p x : K) → i < length xs → p ≡ get_or xs i p → x ≡ get_or xs i x → p ≡ x
same_place xs i p x within again is = get_or_read xs i p within again x ∙ sym is

module _ {K : Type 0} (R : K → K → Ordering) where
  -- the elements of ys below x, then x, then what rest makes of the others
  abbrev pub put_before : K → (List K → List K) → List K → List K
  put_before x rest [] = x ∷ rest []
  put_before x rest (y ∷ ys) = by_order (R x y) (x ∷ rest (y ∷ ys)) (x ∷ rest ys) (y ∷ put_before x rest ys)

  abbrev pub union : List K → List K → List K
  union [] ys = ys
  union (x ∷ xs) ys = put_before x (union xs) ys

  pub union-nil : (xs : List K) → union xs [] ≡ xs
  union-nil [] = refl
  union-nil (x ∷ xs) = ap (λ zs. x ∷ zs) (union-nil xs)

  -- P of each element of both
  each_put_before : (P : K → Type 0) (x : K) (rest : List K → List K) → P x → ((ys : List K) → AllByRecursion P ys → AllByRecursion P (rest ys)) → (ys : List K) → AllByRecursion P ys → AllByRecursion P (put_before x rest ys)
  each_put_before P x rest here later [] all = (here, later [] tt)
  each_put_before P x rest here later (y ∷ ys) all =
      elim (R x y) as (λ o. AllByRecursion P (by_order o (x ∷ rest (y ∷ ys)) (x ∷ rest ys) (y ∷ put_before x rest ys))) [
        | Less ↦ (here, later (y ∷ ys) all)
        | Equal ↦ (here, later ys all.1)
        | Greater ↦ (all.0, each_put_before P x rest here later ys all.1)
      ]

  pub each_union : (P : K → Type 0) (xs ys : List K) → AllByRecursion P xs → AllByRecursion P ys → AllByRecursion P (union xs ys)
  each_union P [] ys left right = right
  each_union P (x ∷ xs) ys left right = each_put_before P x (union xs) left.0 (λ zs all. each_union P xs zs left.1 all) ys right

  -- it is no longer than both
  length_put_before : (x : K) (rest : List K → List K) (n : ℕ) → ((ys : List K) → length (rest ys) ≤ n + length ys) → (ys : List K) → length (put_before x rest ys) ≤ (n + 1) + length ys
  length_put_before x rest n later [] = omega (arith, later [])
  length_put_before x rest n later (y ∷ ys) =
      let further : length (put_before x rest ys) ≤ (n + 1) + length ys = length_put_before x rest n later ys in
      elim (R x y) as (λ o. length (by_order o (x ∷ rest (y ∷ ys)) (x ∷ rest ys) (y ∷ put_before x rest ys)) ≤ (n + 1) + length (y ∷ ys)) [
        | Less ↦ omega (arith, later (y ∷ ys))
        | Equal ↦ omega (arith, later ys)
        | Greater ↦ omega (arith, further)
      ]

  pub length_union : (xs ys : List K) → length (union xs ys) ≤ length xs + length ys
  length_union [] ys = omega arith
  length_union (x ∷ xs) ys =
      let both : length (put_before x (union xs) ys) ≤ (length xs + 1) + length ys = length_put_before x (union xs) (length xs) (length_union xs) ys in
      omega (arith, both)

  module _ (total : IsTotalOrder R) (exact : IsExact R) where
    -- it has what one of the two has
    any_put_before : (test : K → Bool) (x : K) (xs : List K) (rest : List K → List K) → ((ys : List K) → list_any test (rest ys) ≡ (list_any test xs || list_any test ys))
        → (ys : List K) → list_any test (put_before x rest ys) ≡ (test x || (list_any test xs || list_any test ys))
    any_put_before test x xs rest later [] = ap (λ b. test x || b) (later [])
    any_put_before test x xs rest later (y ∷ ys) = at (R x y) refl (any_put_before test x xs rest later ys)
      where
        at : (o : Ordering) → R x y ≡ o → list_any test (put_before x rest ys) ≡ (test x || (list_any test xs || list_any test ys))
            → list_any test (by_order o (x ∷ rest (y ∷ ys)) (x ∷ rest ys) (y ∷ put_before x rest ys)) ≡ (test x || (list_any test xs || (test y || list_any test ys)))
        at Less e further = ap (λ b. test x || b) (later (y ∷ ys))
        at Equal e further =
            ap (λ b. test x || b) (later ys) ∙ or_same (test x) (list_any test xs) (list_any test ys)
            ∙ ap (λ z. test x || (list_any test xs || (test z || list_any test ys))) (exact x y e)
        at Greater e further = ap (λ b. test y || b) further ∙ or_turned (test y) (test x) (list_any test xs) (list_any test ys)

    pub any_union : (test : K → Bool) (xs ys : List K) → list_any test (union xs ys) ≡ (list_any test xs || list_any test ys)
    any_union test [] ys = refl
    any_union test (x ∷ xs) ys = any_put_before test x xs (union xs) (any_union test xs) ys ∙ or_assoc (test x) (list_any test xs) (list_any test ys)
      where
        or_assoc : (a b c : Bool) → (a || (b || c)) ≡ ((a || b) || c)
        or_assoc true b c = refl
        or_assoc false b c = refl

    -- and it rises
    above : (x y : K) → R x y ≡ Less → (zs : List K) → AllByRecursion (λ z. R y z ≡ Less) zs → AllByRecursion (λ z. R x z ≡ Less) zs
    above x y e = each_weaker (λ z. R y z ≡ Less) (λ z. R x z ≡ Less) (λ z h. total.trans x y z e h)

    rising_put_before : (x : K) (rest : List K → List K)
        → ((P : K → Type 0) (ys : List K) → P x → ((z : K) → R x z ≡ Less → P z) → AllByRecursion P ys → AllByRecursion P (rest ys))
        → ((ys : List K) → IsStrictlySortedBy R ys → AllByRecursion (λ z. R x z ≡ Less) ys → IsStrictlySortedBy R (x ∷ rest ys))
        → (ys : List K) → IsStrictlySortedBy R ys → IsStrictlySortedBy R (put_before x rest ys)
    unfolding IsStrictlySortedBy
    rising_put_before x rest each later [] s = later [] tt tt
    rising_put_before x rest each later (y ∷ ys) s = at (R x y) refl (rising_put_before x rest each later ys s.1)
      where
        at : (o : Ordering) → R x y ≡ o → IsStrictlySortedBy R (put_before x rest ys) → IsStrictlySortedBy R (by_order o (x ∷ rest (y ∷ ys)) (x ∷ rest ys) (y ∷ put_before x rest ys))
        at Less e further = later (y ∷ ys) s (e, above x y e ys s.0)
        at Equal e further = later ys s.1 (subst (λ q. AllByRecursion (λ z. R q z ≡ Less) ys) (sym (exact x y e)) s.0)
        at Greater e further =
            let below : R y x ≡ Less = less_from_greater total x y e in
            (each_put_before (λ z. R y z ≡ Less) x rest below (λ zs all. each (λ z. R y z ≡ Less) zs below (λ z h. total.trans y x z below h) all) ys s.0, further)

    pub rising_union : (xs ys : List K) → IsStrictlySortedBy R xs → IsStrictlySortedBy R ys → IsStrictlySortedBy R (union xs ys)
    unfolding IsStrictlySortedBy
    rising_union [] ys s t = t
    rising_union (x ∷ xs) ys s t =
        rising_put_before x (union xs)
        (λ P zs here further all. each_union P xs zs (each_weaker (λ z. R x z ≡ Less) P further xs s.0) all)
        (λ zs u above. (each_union (λ z. R x z ≡ Less) xs zs s.0 above, rising_union xs zs s.1 u))
        ys t

  -- a step of the pass
  module _ (xs ys done all new : List K) (i j : ℕ) (x y p : K) (within : i < length xs) (within_too : j < length ys) (left : x ≡ get_or xs i x) (right : y ≡ get_or ys j y)
      (so_far : done ++ union (drop i xs) (drop j ys) ≡ all) (push : new ≡ done ++ p ∷ []) where
    here : union (drop i xs) (drop j ys) ≡ by_order (R x y) (x ∷ union (drop (i + 1) xs) (y ∷ drop (j + 1) ys)) (x ∷ union (drop (i + 1) xs) (drop (j + 1) ys)) (y ∷ union (x ∷ drop (i + 1) xs) (drop (j + 1) ys))
    here = (λ k. union (at_place xs i x within left k) (at_place ys j y within_too right k))

    onward : (rest : List K) → union (drop i xs) (drop j ys) ≡ p ∷ rest → new ++ rest ≡ all
    onward rest e = ap (λ zs. zs ++ rest) push ∙ append_assoc done (p ∷ []) rest ∙ ap (λ zs. done ++ zs) (sym e) ∙ so_far

    pub union_less : R x y ≡ Less → p ≡ x → new ++ union (drop (i + 1) xs) (drop j ys) ≡ all
    union_less e is = onward _ (here ∙ (λ k. by_order (e k) (x ∷ union (drop (i + 1) xs) (y ∷ drop (j + 1) ys)) (x ∷ union (drop (i + 1) xs) (drop (j + 1) ys)) (y ∷ union (x ∷ drop (i + 1) xs) (drop (j + 1) ys))) ∙ (λ k. sym is k ∷ union (drop (i + 1) xs) (sym (at_place ys j y within_too right) k)))

    pub union_equal : R x y ≡ Equal → p ≡ x → new ++ union (drop (i + 1) xs) (drop (j + 1) ys) ≡ all
    union_equal e is = onward _ (here ∙ (λ k. by_order (e k) (x ∷ union (drop (i + 1) xs) (y ∷ drop (j + 1) ys)) (x ∷ union (drop (i + 1) xs) (drop (j + 1) ys)) (y ∷ union (x ∷ drop (i + 1) xs) (drop (j + 1) ys))) ∙ (λ k. sym is k ∷ union (drop (i + 1) xs) (drop (j + 1) ys)))

    pub union_greater : R x y ≡ Greater → p ≡ y → new ++ union (drop i xs) (drop (j + 1) ys) ≡ all
    union_greater e is = onward _ (here ∙ (λ k. by_order (e k) (x ∷ union (drop (i + 1) xs) (y ∷ drop (j + 1) ys)) (x ∷ union (drop (i + 1) xs) (drop (j + 1) ys)) (y ∷ union (x ∷ drop (i + 1) xs) (drop (j + 1) ys))) ∙ (λ k. sym is k ∷ union (sym (at_place xs i x within left) k) (drop (j + 1) ys)))

  -- the end of the pass
  pub union_end : (xs ys done all : List K) (i j : ℕ) → (length xs ≤ i) ⊎ (length ys ≤ j) → done ++ union (drop i xs) (drop j ys) ≡ all → (done ++ drop i xs) ++ drop j ys ≡ all
  union_end xs ys done all i j (inl past) so_far =
      append_assoc done (drop i xs) (drop j ys) ∙ ap (λ zs. done ++ (zs ++ drop j ys)) (drop_all i xs past) ∙ ap (λ zs. done ++ union zs (drop j ys)) (sym (drop_all i xs past)) ∙ so_far
  union_end xs ys done all i j (inr past) so_far =
      ap (λ zs. (done ++ drop i xs) ++ zs) (drop_all j ys past) ∙ append-nil (done ++ drop i xs) ∙ ap (λ zs. done ++ zs) (sym (union-nil (drop i xs))) ∙ ap (λ zs. done ++ union (drop i xs) zs) (sym (drop_all j ys past)) ∙ so_far
