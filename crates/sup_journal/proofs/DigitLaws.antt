-- Numbers, written in digits and read.
use Rattle.std.proofs.Common.{◌≡◌, ◌<◌, ℕ, zero, suc, ◌+◌, ◌-◌, ◌*◌, ◌/◌, ◌%◌, ◌^◌, true, false, [], ◌∷◌, ◌++◌, length, refl, ◌∙◌, ap, ap₂, arith, length-append, ◌&&◌}
use Rattle.std.specs.Prelude.{◌||◌, fold}
use Rattle.std.specs.List.{list_all, list_any}
use Rattle.std.specs.Char.{is_ascii_digit}
use Rattle.std.proofs.lemmas.Bool.Decides.{nat_tests}
use Rattle.std.proofs.lemmas.List.Sums.{fold-append}
use Rattle.std.proofs.lemmas.List.Folds.{list_all-append, list_any-append}
use Rattle.sup_journal.specs.Edits.{with_digit, number_of, digits_of}
use Rattle.sup_journal.specs.Files.{is_feed, IsOneLine}

pub digits-zero : (count number : ℕ) → count ≡ 0 → digits_of count number ≡ []
unfolding digits_of
digits-zero zero number none = refl
digits-zero (suc count) number none = absurd (omega arith)

digits-suc : (count number : ℕ) → digits_of (suc count) number ≡ digits_of count (number / 10) ++ (48 + number % 10) ∷ []
unfolding digits_of
digits-suc count number = refl

pub digits-more : (count number : ℕ) → 0 < count → digits_of count number ≡ digits_of (count - 1) (number / 10) ++ (48 + number % 10) ∷ []
digits-more zero number some = absurd (omega arith)
digits-more (suc count) number some =
    let less : count ≡ suc count - 1 = omega arith in
    digits-suc count number ∙ ap (λ (k : ℕ). digits_of k (number / 10) ++ (48 + number % 10) ∷ []) less

pub length-digits : (count number : ℕ) → length (digits_of count number) ≡ count
length-digits zero number = ap length (digits-zero zero number refl)
length-digits (suc count) number =
    let so_far = length-digits count (number / 10) in
    ap length (digits-suc count number) ∙ omega (arith, so_far, length-append (digits_of count (number / 10)) ((48 + number % 10) ∷ []))

digit_is : (d : ℕ) → d < 10 → is_ascii_digit (48 + d) ≡ true
digit_is d less = grind (arith, nat_tests)

digit_stays : (d : ℕ) → d < 10 → is_feed (48 + d) ≡ false
digit_stays d less = grind (arith, nat_tests)

pub digits-are : (count number : ℕ) → list_all is_ascii_digit (digits_of count number) ≡ true
digits-are zero number = ap (list_all is_ascii_digit) (digits-zero zero number refl)
digits-are (suc count) number =
    let d : number % 10 < 10 = omega arith in
    ap (list_all is_ascii_digit) (digits-suc count number)
    ∙ list_all-append is_ascii_digit (digits_of count (number / 10)) ((48 + number % 10) ∷ [])
    ∙ ap₂ (λ s t. s && (t && true)) (digits-are count (number / 10)) (digit_is (number % 10) d)

pub digits-one_line : (count number : ℕ) → IsOneLine (digits_of count number)
digits-one_line zero number = ap (list_any is_feed) (digits-zero zero number refl)
digits-one_line (suc count) number =
    let d : number % 10 < 10 = omega arith in
    ap (list_any is_feed) (digits-suc count number)
    ∙ list_any-append is_feed (digits_of count (number / 10)) ((48 + number % 10) ∷ [])
    ∙ ap₂ (λ s t. s || (t || false)) (digits-one_line count (number / 10)) (digit_stays (number % 10) d)

-- how many numbers have so many digits
abbrev pub tens : ℕ → ℕ
tens zero = 1
tens (suc count) = 10 * tens count

with_last : (q d n : ℕ) → q * 10 + d ≡ n → n < 2 ^ 64 → d < 10 → with_digit q (48 + d) ≡ n
with_last q d n is small less =
    let whole : (q * 10) % 2 ^ 64 ≡ q * 10 = omega arith in
    let digit : (48 + d) - 48 ≡ d = omega arith in
    ap₂ (λ (a b : ℕ). (a + b) % 2 ^ 64) whole digit ∙ omega arith

pub number-digits : (count number : ℕ) → number < tens count → number < 2 ^ 64 → number_of (digits_of count number) ≡ number
unfolding number_of
number-digits zero number fits small = ap (fold with_digit 0) (digits-zero zero number refl) ∙ omega arith
number-digits (suc count) number fits small =
    let q : ℕ = number / 10 in
    let d : ℕ = number % 10 in
    let parts : q * 10 + d ≡ number = omega arith in
    let less : d < 10 = omega arith in
    let front : q < tens count = omega arith in
    let still : q < 2 ^ 64 = omega arith in
    ap (fold with_digit 0) (digits-suc count number)
    ∙ fold-append with_digit 0 (digits_of count q) ((48 + d) ∷ [])
    ∙ ap (λ (n : ℕ). with_digit n (48 + d)) (number-digits count q front still)
    ∙ with_last q d number parts small less
