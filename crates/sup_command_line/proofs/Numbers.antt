-- A text that is parsed is its number, and one that isn't parsed has none of 32 bits.
use Rattle.std.proofs.Common.{◌≡◌, ℕ, ◌<◌, ◌^◌, true, false, Bool, List, length, arith, rules, refl, None, Result}
use Rattle.std.specs.Prelude.{nat_lt, Ok, Err}
use Rattle.std.proofs.lemmas.Bool.Decides.{nat_tests}
use Rattle.std.specs.Result.{OkIff, result_ok}
use Rattle.std.specs.Char.{is_ascii_digit}
use Rattle.std.specs.List.{list_all}
use Rattle.std.specs.Str.Parse.{IsNumeral, ParsesUnsigned, digits_value, without_leading_plus}
use Rattle.std.proofs.lemmas.Str.Parse.{IsNumeralModel, numerals_by_value}
use Rattle.sup_command_line.specs.Numbers.{is_numeral, value_of, number_of}

own : IsNumeralModel (λ ds. list_all is_ascii_digit ds ≡ true) (digits_value 10)
own = numerals_by_value _ (search rules)

is_told : (digits : List ℕ) → IsNumeral 10 digits → is_numeral digits ≡ true
is_told digits h = let all : list_all is_ascii_digit digits ≡ true = own.from digits h.1 in let some : 0 < length digits = h.0 in grind (arith, nat_tests)

tells : (digits : List ℕ) → is_numeral digits ≡ true → IsNumeral 10 digits
tells digits h = let all : list_all is_ascii_digit digits ≡ true = grind (arith, nat_tests) in let some : 0 < length digits = grind (arith, nat_tests) in (some, own.to digits all)

below : (n k : ℕ) → n < k → nat_lt n k ≡ true
below n k h = grind (arith, nat_tests)

reached : (n k : ℕ) → nat_lt n k ≡ true → n < k
reached n k h = grind (arith, nat_tests)

valued : {E : Type 0} (digits : List ℕ) (r : Result ℕ E) → OkIff r (IsNumeral 10 digits × (digits_value 10 digits < 2 ^ 32)) (digits_value 10 digits) → result_ok r ≡ value_of digits
valued digits (Ok n) told =
    let numeral : is_numeral digits ≡ true = is_told digits told.0.0 in
    let small : nat_lt (digits_value 10 digits) (2 ^ 32) ≡ true = below (digits_value 10 digits) (2 ^ 32) told.0.1 in
    rw (numeral, small, told.1) refl
valued digits (Err e) told = by_tests (is_numeral digits) (nat_lt (digits_value 10 digits) (2 ^ 32)) refl refl
  where
    by_tests : (a b : Bool) → is_numeral digits ≡ a → nat_lt (digits_value 10 digits) (2 ^ 32) ≡ b → None ≡ value_of digits
    by_tests true true p q = absurd (told (tells digits p, reached (digits_value 10 digits) (2 ^ 32) q))
    by_tests true false p q = rw (p, q) refl
    by_tests false b p q = rw p refl

pub parsed : {E : Type 0} (text : List ℕ) (r : Result ℕ E) → ParsesUnsigned 32 10 text r → result_ok r ≡ number_of text
unfolding number_of
parsed text r h = valued (without_leading_plus text) r h
