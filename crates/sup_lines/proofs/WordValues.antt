-- What a stripped prefix, a parsed number and a name that was read are, as the definitions say it.
use Rattle.std.proofs.Common.{◌≡◌, ℕ, ◌+◌, ◌<◌, ◌^◌, ◌∙◌, true, false, List, [], ◌∷◌, length, drop, refl, ap, arith, rules, option_map, Option, Some, None, Result}
use Rattle.std.specs.Prelude.{◌≤◌, ◌≢◌, nat_le, ◌==◌, Err}
use Rattle.std.proofs.lemmas.Bool.Decides.{nat_tests}
use Rattle.std.specs.Option.{MatchOption}
use Rattle.std.specs.Result.{OkIff}
use Rattle.std.specs.Borrow.{Bor}
use Rattle.std.specs.Char.{is_ascii_digit}
use Rattle.std.specs.List.{list_all, position_or_len, before_first, after_first}
use Rattle.std.specs.Str.Pattern.{FindsTextPrefix}
use Rattle.std.specs.Str.Parse.{ParsesUnsigned, digits_value}
use Rattle.std.proofs.lemmas.Str.Pattern.{starts_text}
use Rattle.std.proofs.lemmas.Str.Parse.{IsNumeralModel, numerals_by_value, parse_digits}
use Rattle.std.proofs.lemmas.List.{drop_all}
use Rattle.sup_specs.specs.declared.limits.TheConstants.{MAX}
use Rattle.sup_specs.specs.Texts.{text_fault}
use Rattle.sup_specs.specs.declared.texts.Alphabet.TheVariants.{NodeBytes}
use Rattle.sup_specs.specs.declared.texts.TextFault.{TextFault}
use Rattle.sup_local_sup.specs.declared.effect.Incarnation.{Incarnation}
use Rattle.sup_lines.specs.Words.{Word, ◌>>=◌}
use Rattle.sup_lines.specs.Values.{incarnation_of, is_numeral, node_name_of, number_of, unless_faulty}
use Rattle.sup_lines.specs.Options.{value_after}

pub stripped : (key word : List ℕ) (r : Option (Bor (List ℕ))) → MatchOption r (FindsTextPrefix key word None) (λ x. (n : ℕ) × FindsTextPrefix key word (Some n) × (x.now ≡ drop n word) × (length x.now + n ≡ length word)) → option_map (λ v. v.now) r ≡ value_after key word
unfolding value_after
stripped key word None h = rw (← starts_text false key word h) refl
stripped key word (Some x) h = rw (← starts_text true key word (h.0, h.1, rw h.1.0 h.1.2)) (ap Some (h.2 ∙ ap (λ n. drop n word) h.1.0))

own : IsNumeralModel (λ ds. list_all is_ascii_digit ds ≡ true) (digits_value 10)
own = numerals_by_value _ (search rules)

pub numeral_parses : {E : Type 0} (word : List ℕ) (r : Result ℕ E) → ParsesUnsigned 64 10 word r → is_numeral word ≡ true → OkIff r ((0 < length word) × (digits_value 10 word < 2 ^ 64)) (digits_value 10 word)
numeral_parses word r h p = parse_digits own 64 word r h (grind arith)

pub unparsed : {E : Type 0} (greatest : ℕ) (word : List ℕ) (e : E) → greatest < 2 ^ 64 → is_numeral word ≡ true → ParsesUnsigned {E = E} 64 10 word (Err e) → None ≡ number_of greatest word
unfolding number_of
unparsed {E} greatest word e fits p h =
    let small = numeral_parses {E = E} word (Err e) h p in
    let above : nat_le (digits_value 10 word) greatest ≡ false = over (digits_value 10 word) greatest (λ low. small (filled word p, omega arith)) in
    rw (p, above) refl
  where
    filled : (word : List ℕ) → is_numeral word ≡ true → 0 < length word
    filled word p = grind (arith, nat_tests)

    over : (n g : ℕ) → (n ≤ g → ⊥) → nat_le n g ≡ false
    over n g h = grind (arith, nat_tests)

kept : (fault : Option TextFault) (word : Word) → unless_faulty fault word ≢ None → unless_faulty fault word ≡ Some word
kept None word h = refl
kept (Some fault) word h = absurd (h refl)

-- a name is the word that it was read from
pub named : (word : Word) → node_name_of word ≢ None → node_name_of word ≡ Some word
unfolding node_name_of
named word h = kept (text_fault NodeBytes 1 64 word) word h

-- no text is no number
numberless : (text : Word) → text ≡ [] → number_of MAX text ≡ None
unfolding number_of
numberless [] e = refl
numberless (byte ∷ text) e = cc

half : (boot k : Option ℕ) → k ≡ None → ◌≡◌ {A = Option Incarnation} (boot >>= λ b. k >>= λ n. Some (record { boot = b; k = n })) None
half None k e = refl
half (Some b) None e = refl
half (Some b) (Some n) e = cc

-- a word without a point (46) is no incarnation
pub unpointed : (word : Word) → position_or_len (λ byte. byte == 46) word ≡ length word → incarnation_of word ≡ None
unfolding incarnation_of
unpointed word h =
    let none : number_of MAX (after_first (λ byte. byte == 46) word) ≡ None = numberless _ (drop_all _ word (omega (arith, h))) in
    half (number_of MAX (before_first (λ byte. byte == 46) word)) _ none
