-- Names in their order: of the same names there is one such list.
use Rattle.std.specs.Prelude.{◌≡◌, ◌<◌, ◌+◌, ℕ, Bool, true, false, List, [], ◌∷◌, length, sum_by, slice_index_or, IsSorted, IsPermutation, refl}
use Prim.Native.Nat.{suc}
use Rattle.std.specs.declared.cmp.Ordering.{Ordering}
use Rattle.std.specs.declared.cmp.Ordering.TheVariants.{Less, Equal, Greater}
use Rattle.std.specs.Ordering.{is_lt, ordering_reverse}
use Rattle.std.specs.Cmp.{IsStrictWeakOrder}
use Rattle.std.proofs.Common.{sym, ap, ◌∙◌, arith}
use Rattle.std.proofs.lemmas.List.Sums.{sum_by-cons}
use Rattle.std.proofs.lemmas.List.Sorted.{ranks_by, sorted_far, sum_by-IsPermutation}
use Rattle.sup_specs.specs.Values.{Bytes, text_cmp}
use Rattle.sup_specs.specs.OrderLaws.{text_total, text_tie}

abbrev comes_before : Bytes → Bytes → Bool
comes_before x y = is_lt (text_cmp x y)

by_text : IsStrictWeakOrder comes_before
by_text = ranks_by text_total (λ (x : Bytes). x)

abbrev one_if : Bool → ℕ
one_if true = 1
one_if false = 0

-- one for a name that comes before this one
abbrev one_before : Bytes → Bytes → ℕ
one_before x z = one_if (comes_before z x)

none_before : (x : Bytes) (zs : List Bytes) → ((k : ℕ) (d : Bytes) → k < length zs → comes_before (slice_index_or zs k d) x ≡ false) → sum_by (one_before x) zs ≡ 0
none_before x [] f = refl
none_before x (z ∷ zs) f =
    let here : one_before x z ≡ 0 = ap one_if (f 0 z (omega arith)) in
    let rest : sum_by (one_before x) zs ≡ 0 = none_before x zs (λ k d lt. f (suc k) d (omega (arith, lt))) in
    omega (arith, sum_by-cons (one_before x) z zs, here, rest)

-- none of a list in its order comes before its first
first_least : (x : Bytes) (xs : List Bytes) → IsSorted text_cmp (x ∷ xs) → sum_by (one_before x) (x ∷ xs) ≡ 0
first_least x xs up = none_before x (x ∷ xs) (λ k d lt. sorted_far comes_before by_text (x ∷ xs) up 0 k d (omega arith) lt)

is_no : (b : Bool) → one_if b ≡ 0 → b ≡ false
is_no true e = absurd (omega (arith, e))
is_no false e = refl

not_before : (x y : Bytes) (ys : List Bytes) → sum_by (one_before x) (y ∷ ys) ≡ 0 → comes_before y x ≡ false
not_before x y ys none = is_no (comes_before y x) (omega (arith, none, sum_by-cons (one_before x) y ys))

neither : (r s : Ordering) → r ≡ ordering_reverse s → is_lt r ≡ false → is_lt s ≡ false → r ≡ Equal
neither Less s e h k = cc
neither Equal s e h k = refl
neither Greater Less e h k = cc
neither Greater Equal e h k = cc
neither Greater Greater e h k = cc

sorted_rest : (x : Bytes) (xs : List Bytes) → IsSorted text_cmp (x ∷ xs) → IsSorted text_cmp xs
sorted_rest x xs up = λ k d le lt. sorted_far comes_before by_text (x ∷ xs) up (suc k) (suc (k + 1)) d (omega arith) (omega (arith, lt))

same_sorted : (xs ys : List Bytes) → IsSorted text_cmp xs → IsSorted text_cmp ys → ((f : Bytes → ℕ) → sum_by f xs ≡ sum_by f ys) → xs ≡ ys
same_sorted [] [] u v s = refl
same_sorted [] (y ∷ ys) u v s = absurd (omega (arith, s (λ z. 1), sum_by-cons (λ (z : Bytes). 1) y ys))
same_sorted (x ∷ xs) [] u v s = absurd (omega (arith, s (λ z. 1), sum_by-cons (λ (z : Bytes). 1) x xs))
same_sorted (x ∷ xs) (y ∷ ys) u v s =
    let least_x : comes_before y x ≡ false = not_before x y ys (sym (s (one_before x)) ∙ first_least x xs u) in
    let least_y : comes_before x y ≡ false = not_before y x xs (s (one_before y) ∙ first_least y ys v) in
    let same : x ≡ y = text_tie x y (neither (text_cmp x y) (text_cmp y x) (text_total.antisymm x y) least_y least_x) in
    let rest : xs ≡ ys = same_sorted xs ys (sorted_rest x xs u) (sorted_rest y ys v) (λ f. omega (arith, s f, sum_by-cons f x xs, sum_by-cons f y ys, ap f same)) in
    λ i. same i ∷ rest i

pub one_order : (names xs ys : List Bytes) → IsPermutation names xs → IsPermutation names ys → IsSorted text_cmp xs → IsSorted text_cmp ys → xs ≡ ys
one_order names xs ys p q u v = same_sorted xs ys u v (λ f. sum_by-IsPermutation f names xs p ∙ sym (sum_by-IsPermutation f names ys q))
