-- What two texts have in common, a few bytes more at a time.
use Rattle.std.proofs.Common.{◌≡◌, ◌<◌, ◌≤◌, inl, inr, ℕ, ◌+◌, ◌-◌, ◌++◌, length, take, drop, sym, ◌∙◌, ap, ap₂, arith}
use Rattle.std.specs.Prelude.{slice_range}
use Rattle.std.proofs.lemmas.Bool.{cases_lt}
use Rattle.std.proofs.Math.Seq.{take-add}
use Rattle.std.proofs.lemmas.List.{take-take, drop-take, drop-drop}
use Rattle.std.proofs.lemmas.List.Folds.{drop_split}
use Rattle.sup_specs.specs.Values.{Bytes}

run : (xs : Bytes) (from count : ℕ) → slice_range xs from (from + count) ≡ take count (drop from xs)
run xs from count = ap (λ k. take k (drop from xs)) (omega arith)

pub front_more : (left right : Bytes) (count more : ℕ) → take count left ≡ take count right → slice_range left count (count + more) ≡ slice_range right count (count + more) → take (count + more) left ≡ take (count + more) right
front_more left right count more so_far same =
    take-add count more left ∙ ap₂ (λ (a b : Bytes). a ++ b) so_far (sym (run left count more) ∙ same ∙ run right count more) ∙ sym (take-add count more right)

-- where the next byte is another, no more are alike
next_same : (left right : Bytes) (count n : ℕ) → count < n → take n left ≡ take n right → slice_range left count (count + 1) ≡ slice_range right count (count + 1)
next_same left right count n more same =
    let rest : count + (n - count) ≡ n = omega arith in
    let one : 1 ≤ n - count = omega arith in
    let runs : take (n - count) (drop count left) ≡ take (n - count) (drop count right) =
    sym (drop-take count (n - count) left) ∙ ap (λ k. drop count (take k left)) rest ∙ ap (drop count) same ∙ ap (λ k. drop count (take k right)) (sym rest) ∙ drop-take count (n - count) right in
    run left count 1 ∙ sym (take-take 1 (n - count) (drop count left) one) ∙ ap (take 1) runs ∙ take-take 1 (n - count) (drop count right) one ∙ sym (run right count 1)

pub front_most : (left right : Bytes) (count : ℕ) → (slice_range left count (count + 1) ≡ slice_range right count (count + 1) → ⊥)
    → (n : ℕ) → n ≤ length left → n ≤ length right → take n left ≡ take n right → n ≤ count
front_most left right count other n l r same = elim (cases_lt count n) [
  | inl more ↦ absurd (other (next_same left right count n more same))
  | inr within ↦ within
]

-- the same from the ends on
pub tail_more : (left right : Bytes) (count more : ℕ) → count + more ≤ length left → count + more ≤ length right → drop (length left - count) left ≡ drop (length right - count) right
    → slice_range left (length left - count - more) (length left - count - more + more) ≡ slice_range right (length right - count - more) (length right - count - more + more)
    → drop (length left - (count + more)) left ≡ drop (length right - (count + more)) right
tail_more left right count more l r so_far same =
    let from : length left - (count + more) ≡ length left - count - more = omega arith in
    let to : length left - count - more + more ≡ length left - count = omega arith in
    let other_from : length right - (count + more) ≡ length right - count - more = omega arith in
    let other_to : length right - count - more + more ≡ length right - count = omega arith in
    ap (λ k. drop k left) from
    ∙ drop_split left (length left - count - more) (length left - count - more + more) (omega arith)
    ∙ ap₂ (λ (a b : Bytes). a ++ b) same (ap (λ k. drop k left) to ∙ so_far ∙ ap (λ k. drop k right) (sym other_to))
    ∙ sym (drop_split right (length right - count - more) (length right - count - more + more) (omega arith))
    ∙ ap (λ k. drop k right) (sym other_from)

before_same : (left right : Bytes) (count n : ℕ) → count < n → n ≤ length left → n ≤ length right → drop (length left - n) left ≡ drop (length right - n) right
    → slice_range left (length left - count - 1) (length left - count - 1 + 1) ≡ slice_range right (length right - count - 1) (length right - count - 1 + 1)
before_same left right count n more l r same =
    let at : length left - n + (n - count - 1) ≡ length left - count - 1 = omega arith in
    let other_at : length right - n + (n - count - 1) ≡ length right - count - 1 = omega arith in
    let rest : drop (length left - count - 1) left ≡ drop (length right - count - 1) right =
    ap (λ k. drop k left) (sym at) ∙ sym (drop-drop (n - count - 1) (length left - n) left) ∙ ap (drop (n - count - 1)) same
    ∙ drop-drop (n - count - 1) (length right - n) right ∙ ap (λ k. drop k right) other_at in
    run left (length left - count - 1) 1 ∙ ap (take 1) rest ∙ sym (run right (length right - count - 1) 1)

pub tail_most : (left right : Bytes) (count : ℕ) → (slice_range left (length left - count - 1) (length left - count - 1 + 1) ≡ slice_range right (length right - count - 1) (length right - count - 1 + 1) → ⊥)
    → (n : ℕ) → n ≤ length left → n ≤ length right → drop (length left - n) left ≡ drop (length right - n) right → n ≤ count
tail_most left right count other n l r same = elim (cases_lt count n) [
  | inl more ↦ absurd (other (before_same left right count n more l r same))
  | inr within ↦ within
]
