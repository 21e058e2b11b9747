-- The lines of a text, and those that line feeds end.
use Rattle.std.proofs.Common.{◌≡◌, ◌<◌, ◌≤◌, ◌⊎◌, inl, inr, ℕ, zero, suc, ◌+◌, ◌-◌, Bool, true, false, List, [], ◌∷◌, ◌++◌, length, take, drop, get_or, refl, sym, ◌∙◌, ap, subst, arith, length-append, nat_lt, cond}
use Rattle.std.specs.Prelude.{not, Some, None, position}
use Rattle.std.specs.List.{list_any, onto_first, position_or_len, before_first, after_first}
use Rattle.std.proofs.lemmas.List.Splits.{slice_split-cons_yes, slice_split-cons_no, length-slice_split}
use Rattle.std.proofs.lemmas.List.Sums.{split_at_first, prefix_len_stops}
use Rattle.std.proofs.lemmas.Bool.{eqb-true, or_parts, or_from}
use Rattle.std.proofs.lemmas.List.{take_all}
use Rattle.std.proofs.lemmas.Bool.Decides.{nat_tests}
use Rattle.sup_specs.specs.Values.{Bytes}
use Rattle.sup_journal.specs.Files.{is_feed, IsOneLine, lines_of, ended_lines, IsCut}

pub both : (t : Bool) → (t ≡ true) ⊎ (t ≡ false)
both true = inl refl
both false = inr refl

-- a line feed more, or another byte
one_line-cons : (b : ℕ) (bs : Bytes) → IsOneLine (b ∷ bs) → (is_feed b ≡ false) × IsOneLine bs
one_line-cons b bs one = or_parts (is_feed b) (list_any is_feed bs) one

pub one_line_front : (n : ℕ) (line : Bytes) → IsOneLine line → IsOneLine (take n line)
one_line_front zero line one = refl
one_line_front (suc n) [] one = refl
one_line_front (suc n) (b ∷ bs) one =
    let parts = or_parts (is_feed b) (list_any is_feed bs) one in
    or_from (is_feed b) (list_any is_feed (take n bs)) parts.0 (one_line_front n bs parts.1)

pub one_line_back : (n : ℕ) (line : Bytes) → IsOneLine line → IsOneLine (drop n line)
one_line_back zero line one = one
one_line_back (suc n) [] one = refl
one_line_back (suc n) (b ∷ bs) one = one_line_back n bs (one_line-cons b bs one).1

pub some_lines : (text : Bytes) → 0 < length (lines_of text)
some_lines text = omega (arith, length-slice_split is_feed text)

onto_first-append : (b : ℕ) (ps qs : List Bytes) → 0 < length ps → onto_first b (ps ++ qs) ≡ onto_first b ps ++ qs
onto_first-append b [] qs some = absurd (omega (arith, some))
onto_first-append b (p ∷ ps) qs some = refl

-- a line feed parts a text into the lines before it and those behind it
pub lines-append_feed : (xs ys : Bytes) → lines_of (xs ++ 10 ∷ ys) ≡ lines_of xs ++ lines_of ys
lines-append_feed [] ys = refl
lines-append_feed (b ∷ xs) ys = elim (both (is_feed b)) [
  | inl is ↦
      slice_split-cons_yes is_feed b (xs ++ 10 ∷ ys) is
      ∙ ap (λ (ls : List Bytes). [] ∷ ls) (lines-append_feed xs ys)
      ∙ ap (λ (ls : List Bytes). ls ++ lines_of ys) (sym (slice_split-cons_yes is_feed b xs is))
  | inr other ↦
      slice_split-cons_no is_feed b (xs ++ 10 ∷ ys) other
      ∙ ap (onto_first b) (lines-append_feed xs ys)
      ∙ onto_first-append b (lines_of xs) (lines_of ys) (some_lines xs)
      ∙ ap (λ (ls : List Bytes). ls ++ lines_of ys) (sym (slice_split-cons_no is_feed b xs other))
]

pub lines-one_line : (line : Bytes) → IsOneLine line → lines_of line ≡ line ∷ []
lines-one_line [] one = refl
lines-one_line (b ∷ bs) one =
    let parts = one_line-cons b bs one in
    slice_split-cons_no is_feed b bs parts.0 ∙ ap (onto_first b) (lines-one_line bs parts.1)

take_past : (ps qs : List Bytes) (n : ℕ) → take (length ps + n) (ps ++ qs) ≡ ps ++ take n qs
take_past [] qs n = ap (λ k. take k qs) (omega arith)
take_past (p ∷ ps) qs n =
    let more : suc (length ps) + n ≡ suc (length ps + n) = omega arith in
    ap (λ k. take k (p ∷ (ps ++ qs))) more ∙ ap (λ (ls : List Bytes). p ∷ ls) (take_past ps qs n)

pub ended-append_feed : (xs ys : Bytes) → ended_lines (xs ++ 10 ∷ ys) ≡ lines_of xs ++ ended_lines ys
unfolding ended_lines
ended-append_feed xs ys =
    let count : length (lines_of xs ++ lines_of ys) - 1 ≡ length (lines_of xs) + (length (lines_of ys) - 1) = omega (arith, length-append (lines_of xs) (lines_of ys), some_lines ys) in
    ap (λ (ls : List Bytes). take (length ls - 1) ls) (lines-append_feed xs ys)
    ∙ ap (λ k. take k (lines_of xs ++ lines_of ys)) count
    ∙ take_past (lines_of xs) (lines_of ys) (length (lines_of ys) - 1)

pub ended-one_line : (line : Bytes) → IsOneLine line → ended_lines line ≡ []
unfolding ended_lines
ended-one_line line one = ap (λ (ls : List Bytes). take (length ls - 1) ls) (lines-one_line line one)

pub ended-cut : (text line rest : Bytes) → IsCut text line rest → ended_lines text ≡ line ∷ ended_lines rest
ended-cut text line rest cut = ap ended_lines cut.is ∙ ended-append_feed line rest ∙ ap (λ (ls : List Bytes). ls ++ ended_lines rest) (lines-one_line line cut.one)

-- a search for a line feed
some_is : (t : Bool) (n k : ℕ) → cond t (Some n) None ≡ Some k → (t ≡ true) × (n ≡ k)
some_is true n k is = (refl, cc)
some_is false n k is = absurd (cc)

none_is : (t : Bool) (n : ℕ) → cond t (Some n) None ≡ None → t ≡ false
none_is true n is = absurd (cc)
none_is false n is = refl

not_false : (t : Bool) → not t ≡ false → t ≡ true
not_false true is = refl
not_false false is = absurd (cc)

first_here : (b : ℕ) (bs : Bytes) → is_feed b ≡ true → position_or_len is_feed (b ∷ bs) ≡ 0
first_here b bs is = ap (λ t. cond (not t) (1 + position_or_len is_feed bs) 0) is

first_later : (b : ℕ) (bs : Bytes) → is_feed b ≡ false → position_or_len is_feed (b ∷ bs) ≡ suc (position_or_len is_feed bs)
first_later b bs other = ap (λ t. cond (not t) (1 + position_or_len is_feed bs) 0) other ∙ omega arith

none_before : (xs : Bytes) → IsOneLine (take (position_or_len is_feed xs) xs)
none_before [] = refl
none_before (b ∷ bs) = elim (both (is_feed b)) [
  | inl is ↦ ap (λ k. list_any is_feed (take k (b ∷ bs))) (first_here b bs is)
  | inr other ↦
      ap (λ k. list_any is_feed (take k (b ∷ bs))) (first_later b bs other)
      ∙ or_from (is_feed b) (list_any is_feed (take (position_or_len is_feed bs) bs)) other (none_before bs)
]

pub none_within : (xs : Bytes) → position is_feed xs ≡ None → IsOneLine xs
none_within xs is =
    let other : nat_lt (position_or_len is_feed xs) (length xs) ≡ false = none_is (nat_lt (position_or_len is_feed xs) (length xs)) (position_or_len is_feed xs) is in
    let far : length xs ≤ position_or_len is_feed xs = grind (arith, nat_tests) in
    ap (list_any is_feed) (sym (take_all (position_or_len is_feed xs) xs far)) ∙ none_before xs

pub cut_at : (xs : Bytes) (k : ℕ) → position is_feed xs ≡ Some k → IsCut xs (take k xs) (drop (k + 1) xs)
cut_at xs k is =
    let first : ℕ = position_or_len is_feed xs in
    let found = some_is (nat_lt first (length xs)) first k is in
    let test : nat_lt first (length xs) ≡ true = found.0 in
    let within : first < length xs = grind (arith, nat_tests) in
    let feed : get_or xs first 0 ≡ 10 = eqb-true (get_or xs first 0) 10 (not_false (is_feed (get_or xs first 0)) (prefix_len_stops (λ b. not (is_feed b)) xs 0 within)) in
    record {
      is = split_at_first is_feed xs 0 within ∙ ap (λ b. before_first is_feed xs ++ b ∷ after_first is_feed xs) feed ∙ ap (λ n. take n xs ++ 10 ∷ drop (n + 1) xs) found.1;
      one = subst (λ n. IsOneLine (take n xs)) found.1 (none_before xs);
    }

-- what is behind a line is shorter
pub cut_shorter : (text line rest : Bytes) → IsCut text line rest → length rest < length text
cut_shorter text line rest cut = omega (arith, ap length cut.is, length-append line (10 ∷ rest))
