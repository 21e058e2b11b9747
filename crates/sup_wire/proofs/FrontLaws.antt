-- What is written before an image's rows, and behind them.
use Rattle.std.proofs.Common.{◌≡◌, List, [], ◌∷◌, ◌++◌, lit<, codes, decimal, refl, sym, ap, ap₂, ◌∙◌, append_assoc}
use Rattle.std.proofs.lemmas.Fmt.{decimal_digit}
use Rattle.json.specs.Token.{Token, key}
use Rattle.json.specs.Print.{escape_byte, print, print_from, quoted}
use Rattle.json.specs.Written.{Written}
use Rattle.serde_json.specs.Data.{Data}
use Rattle.serde_json.specs.Written.{compact_text}
use Rattle.serde_json.proofs.Texts.{print-outline}
use Rattle.sup_specs.specs.Values.{Bytes}
use Rattle.sup_wire.specs.Writing.{AddsTokens, tokens_of, field_tokens}
use Rattle.sup_wire.specs.ImageTexts.{field_text, image_back}

print_key : (name : Bytes) (ts : List Token) → print (key name ∷ ts) ≡ quoted name ++ 58 ∷ print ts
unfolding print_from
print_key name ts = append_assoc (quoted name) (58 ∷ []) (print ts)

-- a field and a comma
pub field_written : (a b : Written) (front mid all name : Bytes) (d : Data) → a.before ≡ front → a.tokens ≡ [] → AddsTokens a b (field_tokens name d) → mid ≡ b.before ++ print b.tokens → all ≡ mid ++ 44 ∷ [] → all ≡ front ++ field_text name (compact_text d)
field_written a b front mid all name d before none adds inner comma =
    comma ∙ ap (λ t. t ++ 44 ∷ []) (inner ∙ ap₂ (λ f ts. f ++ print ts) (adds.before ∙ before) (adds.tokens ∙ ap (λ ts. ts ++ field_tokens name d) none)
    ∙ ap (λ t. front ++ t) (print_key name (tokens_of d) ∙ ap (λ t. quoted name ++ 58 ∷ t) (print-outline d)))
    ∙ append_assoc front (quoted name ++ 58 ∷ compact_text d) (44 ∷ []) ∙ ap (λ t. front ++ t) (append_assoc (quoted name) (58 ∷ compact_text d) (44 ∷ []))

nothing : print [] ≡ []
unfolding print_from
nothing = refl

pub key_written : (a b : Written) (front all name : Bytes) → a.before ≡ front → a.tokens ≡ [] → b.before ≡ a.before → b.tokens ≡ a.tokens ++ key name ∷ [] → all ≡ b.before ++ print b.tokens → all ≡ front ++ (quoted name ++ 58 ∷ [])
key_written a b front all name before none same tokens inner =
    inner ∙ ap₂ (λ f ts. f ++ print ts) (same ∙ before) (tokens ∙ ap (λ ts. ts ++ key name ∷ []) none) ∙ ap (λ t. front ++ t) (print_key name [] ∙ ap (λ t. quoted name ++ 58 ∷ t) nothing)

pub six : (start t1 t2 t3 t4 t5 t6 a b c d e f : Bytes) → t1 ≡ start ++ a → t2 ≡ t1 ++ b → t3 ≡ t2 ++ c → t4 ≡ t3 ++ d → t5 ≡ t4 ++ e → t6 ≡ t5 ++ f → t6 ≡ start ++ (a ++ (b ++ (c ++ (d ++ (e ++ f)))))
six start t1 t2 t3 t4 t5 t6 a b c d e f h1 h2 h3 h4 h5 h6 =
    h6 ∙ ap (λ t. t ++ f) (h5 ∙ ap (λ t. t ++ e) (h4 ∙ ap (λ t. t ++ d) (h3 ∙ ap (λ t. t ++ c) (h2 ∙ ap (λ t. t ++ b) h1)))) ∙ simp append_assoc

-- ---- what stands behind

back_with : (two : Bytes) → 44 ∷ (quoted (codes "v") ++ 58 ∷ (two ++ 125 ∷ [])) ≡ 44 ∷ 34 ∷ 118 ∷ 34 ∷ 58 ∷ (two ++ 125 ∷ [])
unfolding escape_byte
back_with two = refl

pub back_is : 44 ∷ 34 ∷ 118 ∷ 34 ∷ 58 ∷ 50 ∷ 125 ∷ [] ≡ image_back
back_is = ap (λ two. 44 ∷ 34 ∷ 118 ∷ 34 ∷ 58 ∷ (two ++ 125 ∷ [])) (sym (decimal_digit 2 (lit< tt))) ∙ sym (back_with (decimal 2))
