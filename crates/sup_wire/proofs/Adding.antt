-- Tokens that were appended, one part after another, and the text that they make.
use Rattle.std.proofs.Common.{◌≡◌, ℕ, ◌<◌, ◌≤◌, ◌^◌, List, [], ◌∷◌, ◌++◌, Some, decimal, refl, sym, ap, subst, ◌∙◌, append_assoc, arith}
use Rattle.std.specs.Str.{IsUtf8}
use Rattle.json.specs.Token.{Token, key}
use Rattle.json.specs.Lex.{tokens}
use Rattle.json.specs.Print.{print}
use Rattle.json.specs.Written.{Written}
use Rattle.serde_json.specs.Data.{Data, unsigned, depth}
use Rattle.serde_json.specs.Read.{read, of_json, max_depth}
use Rattle.serde_json.specs.Written.{outline, unless_float, WritesValue}
use Rattle.serde_json.proofs.Texts.{print-outline, unless_float-number_of}
use Rattle.std.specs.Prelude.{option_and_then}
use Rattle.json.specs.Json as json
use Rattle.json.proofs.Printed.Trees.{value-json_tokens}
use Rattle.std.proofs.Common.{append-nil}
use Rattle.serde_json.proofs.Numbers.{number_of-decimal}
use Rattle.sup_wire.specs.Writing.{AddsTokens, WritesDraft, tokens_of, field_tokens}
use Rattle.sup_wire.specs.Faults.{TextSays, IsTextOf, IsTextAfter}
use Rattle.sup_wire.specs.Drafts.{Draft}
use Rattle.sup_wire.specs.Forms.{value_of}
use Rattle.sup_wire.specs.declared.version.Version.TheVariants.{Two}
use Rattle.sup_specs.specs.Values.{Bytes}

pub adds_field : (a b c : Written) (name : List ℕ) (d : Data) → b.before ≡ a.before → b.tokens ≡ a.tokens ++ key name ∷ [] → AddsTokens b c (tokens_of d) → AddsTokens a c (field_tokens name d)
adds_field a b c name d before tokens after = record {
  before = after.before ∙ before;
  tokens = after.tokens ∙ ap (λ ts. ts ++ tokens_of d) tokens ∙ append_assoc a.tokens (key name ∷ []) (tokens_of d);
}

pub adds_one : (a b : Written) (t : Token) → b.before ≡ a.before → b.tokens ≡ a.tokens ++ t ∷ [] → AddsTokens a b (t ∷ [])
adds_one a b t before tokens = record { before = before; tokens = tokens }

pub adds_then : (a b c : Written) (ts us : List Token) → AddsTokens a b ts → AddsTokens b c us → AddsTokens a c (ts ++ us)
adds_then a b c ts us x y = record {
  before = y.before ∙ x.before;
  tokens = y.tokens ∙ ap (λ w. w ++ us) x.tokens ∙ append_assoc a.tokens ts us;
}

pub adds_four : (a b c d e : Written) (t : Token) (ts us vs : List Token) → b.before ≡ a.before → b.tokens ≡ a.tokens ++ t ∷ [] → AddsTokens b c ts → AddsTokens c d us → AddsTokens d e vs → AddsTokens a e (t ∷ (ts ++ (us ++ vs)))
adds_four a b c d e t ts us vs before tokens x y z = record {
  before = z.before ∙ y.before ∙ x.before ∙ before;
  tokens = z.tokens ∙ ap (λ w. w ++ vs) (y.tokens ∙ ap (λ w. w ++ us) (x.tokens ∙ ap (λ w. w ++ ts) tokens)) ∙ simp append_assoc;
}

-- tokens of a value are read as it
read_back : (d : Data) (ts : List Token) (text : List ℕ) → WritesValue d [] ts → tokens text ≡ ts → depth d ≤ max_depth → read text ≡ Some d
read_back d ts text w same shallow =
    ap (λ o. option_and_then of_json (option_and_then (λ p. json.if_last p.0 p.1) o))
    (ap (json.value max_depth) (same ∙ w.1 ∙ sym (append-nil _)) ∙ value-json_tokens w.0 max_depth [] (omega (arith, w.3))) ∙ w.2

pub whole_number : (n : ℕ) → n < 2 ^ 64 → unless_float (decimal n) ≡ decimal n
whole_number n h = unless_float-number_of (decimal n) (unsigned n) (number_of-decimal n h)

-- what was written behind a front is the compact text of the value, and is read as it
pub text_after : {M : Type 0} (IsDraft : M → Draft → Type 0) (InRange : M → Type 0) (x : M) (old new : Written) (front all : Bytes) → old.before ≡ front → old.tokens ≡ [] → WritesDraft IsDraft InRange old new x
    → all ≡ new.before ++ print new.tokens → tokens (print new.tokens) ≡ new.tokens → IsUtf8 (print new.tokens) → IsTextAfter IsDraft InRange front all x
text_after IsDraft InRange x old new front all before none writes is again utf8 =
    let d = value_of writes.draft in
    let same : new.tokens ≡ tokens_of d = writes.adds.tokens ∙ ap (λ ts. ts ++ tokens_of d) none in
    record {
      text = print new.tokens;
      parts = is ∙ ap (λ f. f ++ print new.tokens) (writes.adds.before ∙ before);
      is = record {
        draft = writes.draft;
        same = writes.same;
        compact = ap print same ∙ print-outline d;
        json = record { utf8 = utf8; value = read_back d (tokens_of d) (print new.tokens) (outline d, refl, writes.back.value, writes.back.nests, writes.back.whole) (again ∙ same) writes.back.shallow };
        formed = writes.formed;
      };
    }

-- with no front it is all
pub text_alone : {M : Type 0} (IsDraft : M → Draft → Type 0) (InRange : M → Type 0) (x : M) (front all : Bytes) → front ≡ [] → IsTextAfter IsDraft InRange front all x → IsTextOf IsDraft InRange all x
text_alone IsDraft InRange x front all none after =
    subst (λ t. IsTextOf IsDraft InRange t x) (sym (after.parts ∙ ap (λ f. f ++ after.text) none)) after.is

pub says_text : {M : Type 0} (IsDraft : M → Draft → Type 0) (InRange : M → Type 0) (x : M) (text : Bytes) → IsTextOf IsDraft InRange text x → InRange x → TextSays IsDraft text x
says_text IsDraft InRange x text is range = record { version = Two; draft = is.draft; same = is.same; formed = is.formed range; json = is.json }
