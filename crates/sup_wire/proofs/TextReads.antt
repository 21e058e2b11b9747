-- A value's compact text is UTF-8, and is read as the value.
use Rattle.std.proofs.Common.{◌≡◌, ℕ, ◌<◌, ◌^◌, Bool, true, false, [], ◌∷◌, ◌++◌, decimal, IsUtf8, refl, sym, ap, ◌∙◌, append-nil, arith}
use Rattle.std.specs.Prelude.{option_and_then}
use Rattle.std.proofs.lemmas.Str.{IsUtf8-append, IsUtf8-from_ascii}
use Rattle.std.proofs.lemmas.Fmt.{IsAscii-decimal}
use Rattle.json.specs.Print.{quoted}
use Rattle.json.specs.Lex.{tokens}
use Rattle.json.specs.Json as json
use Rattle.json.specs.Tree.{HasNumbers, ItemsHaveNumbers, MembersHaveNumbers}
use Rattle.json.proofs.Printed.Utf8.{IsUtf8-quoted, IsUtf8-are_ascii}
use Rattle.json.proofs.Printed.Tokens.{tokens-print}
use Rattle.json.proofs.Printed.Trees.{ArePrintable-json_tokens, value-json_tokens}
use Rattle.json.proofs.Printed.Decimals.{IsNumber-decimal}
use Rattle.serde_json.specs.Data.{Data, unsigned, negative, float, null, boolean, number, string, array, object, Items, no_items, item, Members, no_members, member}
use Rattle.serde_json.specs.Read.{of_json, max_depth}
use Rattle.serde_json.specs.Written.{outline, items_outline, members_outline, compact_text, items_text, members_text, comma_if}
use Rattle.serde_json.proofs.Texts.{print-outline}
use Rattle.sup_specs.specs.Values.{Bytes}
use Rattle.sup_wire.specs.Faults.{IsJson}
use Rattle.sup_wire.specs.Writing.{ReadsBack, tokens_of}

-- strings are UTF-8, and numbers fit 64 bits
abbrev mutual
  pub AreTexts : Data → Type 0
  AreTexts null = Unit {0}
  AreTexts (boolean b) = ⊥
  AreTexts (number (unsigned n)) = n < 2 ^ 64
  AreTexts (number (negative z)) = ⊥
  AreTexts (number (float x)) = ⊥
  AreTexts (string s) = IsUtf8 s
  AreTexts (array ds) = ItemTexts ds
  AreTexts (object ms) = MemberTexts ms

  pub ItemTexts : Items → Type 0
  ItemTexts no_items = Unit {0}
  ItemTexts (item d ds) = AreTexts d × ItemTexts ds

  pub MemberTexts : Members → Type 0
  MemberTexts no_members = Unit {0}
  MemberTexts (member k d ms) = IsUtf8 k × (AreTexts d × MemberTexts ms)

sign : (x : ℕ) → IsUtf8 (x ∷ []) → (xs : Bytes) → IsUtf8 xs → IsUtf8 (x ∷ xs)
sign x one xs u = IsUtf8-append (x ∷ []) xs one u

utf8_decimal : (n : ℕ) → n < 2 ^ 64 → IsUtf8 (decimal n)
utf8_decimal n h = IsUtf8-from_ascii (decimal n) (IsAscii-decimal n h)

comma_before : (later : Bool) (xs : Bytes) → IsUtf8 xs → IsUtf8 (comma_if later ++ xs)
comma_before true xs u = sign 44 (IsUtf8-are_ascii _ refl) xs u
comma_before false xs u = u

mutual
  pub utf8 : (d : Data) → AreTexts d → IsUtf8 (compact_text d)
  utf8 null are = IsUtf8-are_ascii _ refl
  utf8 (boolean b) are = absurd are
  utf8 (number (unsigned n)) are = utf8_decimal n are
  utf8 (number (negative z)) are = absurd are
  utf8 (number (float x)) are = absurd are
  utf8 (string s) are = IsUtf8-quoted s are
  utf8 (array ds) are = sign 91 (IsUtf8-are_ascii _ refl) (items_text false ds) (utf8_items false ds are)
  utf8 (object ms) are = sign 123 (IsUtf8-are_ascii _ refl) (members_text false ms) (utf8_members false ms are)

  utf8_items : (later : Bool) (ds : Items) → ItemTexts ds → IsUtf8 (items_text later ds)
  utf8_items later no_items are = IsUtf8-are_ascii _ refl
  utf8_items later (item d ds) are = comma_before later _ (IsUtf8-append (compact_text d) (items_text true ds) (utf8 d are.0) (utf8_items true ds are.1))

  utf8_members : (later : Bool) (ms : Members) → MemberTexts ms → IsUtf8 (members_text later ms)
  utf8_members later no_members are = IsUtf8-are_ascii _ refl
  utf8_members later (member k d ms) are =
      comma_before later _ (IsUtf8-append (quoted k) _ (IsUtf8-quoted k are.0) (sign 58 (IsUtf8-are_ascii _ refl) _ (IsUtf8-append (compact_text d) (members_text true ms) (utf8 d are.1.0) (utf8_members true ms are.1.1))))

mutual
  numbers : (d : Data) → AreTexts d → HasNumbers (outline d)
  numbers null are = tt
  numbers (boolean b) are = tt
  numbers (number (unsigned n)) are = IsNumber-decimal n are
  numbers (number (negative z)) are = absurd are
  numbers (number (float x)) are = absurd are
  numbers (string s) are = tt
  numbers (array ds) are = item_numbers ds are
  numbers (object ms) are = member_numbers ms are

  item_numbers : (ds : Items) → ItemTexts ds → ItemsHaveNumbers (items_outline ds)
  item_numbers no_items are = tt
  item_numbers (item d ds) are = (numbers d are.0, item_numbers ds are.1)

  member_numbers : (ms : Members) → MemberTexts ms → MembersHaveNumbers (members_outline ms)
  member_numbers no_members are = tt
  member_numbers (member k d ms) are = (numbers d are.1.0, member_numbers ms are.1.1)

-- a value's compact text is read as the value
pub is_json : (d : Data) → AreTexts d → ReadsBack d → IsJson (compact_text d) d
is_json d are back =
    let printed = print-outline d in
    let again : tokens (compact_text d) ≡ tokens_of d = ap tokens (sym printed) ∙ tokens-print (tokens_of d) (ArePrintable-json_tokens (outline d) (numbers d are)) in
    record {
      utf8 = utf8 d are;
      value =
          ap (λ o. option_and_then of_json (option_and_then (λ p. json.if_last p.0 p.1) o))
          (ap (json.value max_depth) (again ∙ sym (append-nil _)) ∙ value-json_tokens (outline d) max_depth [] (let n = back.nests in let s = back.shallow in omega (arith, n, s))) ∙ back.value;
    }
