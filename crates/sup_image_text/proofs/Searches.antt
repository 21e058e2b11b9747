-- What stands before a row's place and behind it, and how a search comes to it.
use Rattle.std.proofs.Common.{◌≡◌, ℕ, zero, suc, ◌+◌, ◌-◌, ◌<◌, ◌≤◌, true, false, cond, List, [], ◌∷◌, ◌++◌, length, get_or, take, drop, Ordering, Less, Equal, Greater, is_lt, refl, sym, ap, ap₂, ◌∙◌, append_assoc, arith, length-drop}
use Rattle.std.specs.Prelude.{slice_range}
use Rattle.std.specs.List.{AllByRecursion}
use Rattle.std.specs.List.Sorted.{IsStrictlySortedBy}
use Rattle.std.proofs.lemmas.List.{drop_more, drop-drop, drop_all}
use Rattle.std.proofs.lemmas.Bool.{false≢true}
use Rattle.std.proofs.lemmas.List.{get_or-drop}
use Rattle.std.proofs.Math.Seq.{take-add}
use Rattle.sup_edits.specs.Edits.{before, after}
use Rattle.sup_tables.specs.declared.row.Row.{Row}
use Rattle.sup_tables.specs.Rows.{place_cmp}
use Rattle.sup_tables.specs.RowLaws.{place_total}

is_less : (o : Ordering) → is_lt o ≡ true → o ≡ Less
is_less Less h = refl
is_less Equal h = absurd (false≢true h)
is_less Greater h = absurd (false≢true h)

pub all_at : {X : Type 0} (P : X → Type 0) (xs : List X) (j : ℕ) (d : X) → AllByRecursion P xs → j < length xs → P (get_or xs j d)
all_at P [] j d all h = absurd (omega (arith, h))
all_at P (x ∷ xs) zero d all h = all.0
all_at P (x ∷ xs) (suc j) d all h = all_at P xs j d all.1 (omega (arith, h))

pub sorted_drop : {X : Type 0} (cmp : X → X → Ordering) (n : ℕ) (xs : List X) → IsStrictlySortedBy cmp xs → IsStrictlySortedBy cmp (drop n xs)
unfolding IsStrictlySortedBy
sorted_drop cmp zero xs s = s
sorted_drop cmp (suc n) [] s = s
sorted_drop cmp (suc n) (x ∷ xs) s = sorted_drop cmp n xs s.1

-- what stands in front of a row that is before a place is before it too
before_earlier : (x r q : Row) → place_cmp x r ≡ Less → is_lt (place_cmp r q) ≡ true → is_lt (place_cmp x q) ≡ true
before_earlier x r q less h = ap is_lt (place_total.trans x r q less (is_less (place_cmp r q) h))

pub record IsFront (q : Row) (xs : List Row) (n : ℕ) : Type 0 where
  pub before_is : before place_cmp q xs ≡ take n xs ++ before place_cmp q (drop n xs)
  pub after_is : after place_cmp q xs ≡ after place_cmp q (drop n xs)

pub front_before : (q : Row) (xs : List Row) (j : ℕ) (d : Row) → IsStrictlySortedBy place_cmp xs → j < length xs → is_lt (place_cmp (get_or xs j d) q) ≡ true → IsFront q xs (suc j)
unfolding IsStrictlySortedBy
front_before q [] j d s h t = absurd (omega (arith, h))
front_before q (x ∷ xs) zero d s h t = record { before_is = rw t refl; after_is = rw t refl }
front_before q (x ∷ xs) (suc j) d s h t =
    let near : j < length xs = omega (arith, h) in
    let first : is_lt (place_cmp x q) ≡ true = before_earlier x (get_or xs j d) q (all_at (λ y. place_cmp x y ≡ Less) xs j d s.0 near) t in
    let rest = front_before q xs j d s.1 near t in
    record { before_is = rw first (ap (λ ys. x ∷ ys) rest.before_is); after_is = rw first rest.after_is }

-- where a search for a row's place stands: all before `low` is before it, and nothing from `high` on
pub record IsHalved (q : Row) (rows : List Row) (from low high : ℕ) : Type 0 where
  pub before_is : before place_cmp q (drop from rows) ≡ slice_range rows from low ++ before place_cmp q (drop low rows)
  pub after_is : after place_cmp q (drop from rows) ≡ after place_cmp q (drop low rows)
  pub none_before : before place_cmp q (drop high rows) ≡ []
  pub all_after : after place_cmp q (drop high rows) ≡ drop high rows

pub slice_none : {X : Type 0} (xs : List X) (n : ℕ) → slice_range xs n n ≡ []
slice_none xs n = let e : n - n ≡ 0 = omega arith in ap (λ k. take k (drop n xs)) e

pub slice_join : {X : Type 0} (xs : List X) (i j k : ℕ) → i ≤ j → j ≤ k → slice_range xs i j ++ slice_range xs j k ≡ slice_range xs i k
slice_join xs i j k le le2 =
    let sum : k - i ≡ (j - i) + (k - j) = omega (arith, le, le2) in
    let there : i + (j - i) ≡ j = omega (arith, le) in
    sym (ap (λ n. take n (drop i xs)) sum ∙ take-add (j - i) (k - j) (drop i xs) ∙ ap (λ ys. take (j - i) (drop i xs) ++ take (k - j) ys) (drop-drop (j - i) i xs ∙ ap (λ n. drop n xs) there))

pub halved_first : (q : Row) (rows : List Row) (from : ℕ) → IsHalved q rows from from (length rows)
halved_first q rows from = record {
  before_is = ap (λ ys. ys ++ before place_cmp q (drop from rows)) (sym (slice_none rows from));
  after_is = refl;
  none_before = ap (before place_cmp q) (drop_all (length rows) rows (omega arith));
  all_after = ap (after place_cmp q) (drop_all (length rows) rows (omega arith)) ∙ sym (drop_all (length rows) rows (omega arith));
}

pub halved_up : (q : Row) (rows : List Row) (from low high middle : ℕ) (d : Row) → IsStrictlySortedBy place_cmp rows → IsHalved q rows from low high → from ≤ low → low ≤ middle → middle < length rows → is_lt (place_cmp (get_or rows middle d) q) ≡ true → IsHalved q rows from (middle + 1) high
halved_up q rows from low high middle d s h le le2 less t =
    let at : low + (middle - low) ≡ middle = omega (arith, le2) in
    let next : suc (middle - low) ≡ middle + 1 - low = omega (arith, le2) in
    let behind : low + suc (middle - low) ≡ middle + 1 = omega (arith, le2) in
    let here : is_lt (place_cmp (get_or (drop low rows) (middle - low) d) q) ≡ true = ap (λ r. is_lt (place_cmp r q)) (get_or-drop low rows (middle - low) d ∙ ap (λ n. get_or rows n d) at) ∙ t in
    let front = front_before q (drop low rows) (middle - low) d (sorted_drop place_cmp low rows s) (omega (arith, length-drop low rows, less, le2)) here in
    let dropped : drop (suc (middle - low)) (drop low rows) ≡ drop (middle + 1) rows = drop-drop (suc (middle - low)) low rows ∙ ap (λ n. drop n rows) behind in
    record {
      before_is = h.before_is ∙ ap (λ ys. slice_range rows from low ++ ys) (front.before_is ∙ ap₂ (λ n ys. take n (drop low rows) ++ before place_cmp q ys) next dropped)
          ∙ sym (append_assoc (slice_range rows from low) (slice_range rows low (middle + 1)) (before place_cmp q (drop (middle + 1) rows)))
          ∙ ap (λ ys. ys ++ before place_cmp q (drop (middle + 1) rows)) (slice_join rows from low (middle + 1) le (omega (arith, le2)));
      after_is = h.after_is ∙ front.after_is ∙ ap (after place_cmp q) dropped;
      none_before = h.none_before;
      all_after = h.all_after;
    }

pub halved_down : (q : Row) (rows : List Row) (from low high middle : ℕ) (d : Row) → IsHalved q rows from low high → middle < length rows → is_lt (place_cmp (get_or rows middle d) q) ≡ false → IsHalved q rows from low middle
halved_down q rows from low high middle d h less f = record {
  before_is = h.before_is;
  after_is = h.after_is;
  none_before = ap (before place_cmp q) (drop_more rows middle d less) ∙ ap (λ b. cond b (get_or rows middle d ∷ before place_cmp q (drop (middle + 1) rows)) []) f;
  all_after = ap (after place_cmp q) (drop_more rows middle d less) ∙ ap (λ b. cond b (after place_cmp q (drop (middle + 1) rows)) (get_or rows middle d ∷ drop (middle + 1) rows)) f ∙ sym (drop_more rows middle d less);
}
