-- An object's text that is cut short is read as nothing.
use Rattle.std.proofs.Common.{◌≡◌, ℕ, zero, suc, ◌<◌, ◌≤◌, Bool, true, false, List, [], ◌∷◌, ◌++◌, take, drop, length, Option, Some, None, option_and_then, refl, sym, ap, ◌∙◌, subst, arith, append_assoc, length-append}
use Rattle.std.proofs.lemmas.Option.{none-some, same_Some}
use Rattle.std.proofs.lemmas.List.{take-append-le, take-append-drop}
use Rattle.json.specs.Token.{Token}
use Rattle.json.specs.Lex.{Lexeme, token, comma, colon, Class, quote, backslash, operator, space, other, class, between, Mode, lex_byte, lex, Place, fresh, after_value, after_comma, after_key, may_begin, may_close, if_allowed, place_token, begins_colon, punctuate, tokens}
use Rattle.json.specs.Json.{Json, if_last, value}
use Rattle.json.specs.Print.{quoted}
use Rattle.json.proofs.Grammar.{left, value_is}
use Rattle.serde_json.specs.Data.{Data, object, Members, no_members, member}
use Rattle.serde_json.specs.Read.{read, of_json, max_depth}
use Rattle.serde_json.specs.Written.{comma_if, compact_text, members_text}
use Rattle.sup_cut_texts.proofs.Levels.{past, Closes-object}
use Rattle.sup_cut_texts.proofs.Behind.{behind, behind-append, agrees}

-- ---- no brace is left where no token is

abbrev HasSome : {A : Type 0} → List A → Type 0
HasSome [] = ⊥
HasSome (x ∷ xs) = Unit {0}

allowed : (b : Bool) (t : Token) (k : Place → List Token) (q : Place) → HasSome (if_allowed b t k q)
allowed true t k q = tt
allowed false t k q = tt

placed : (p : Place) (t : Token) (b : Bool) (k : Place → List Token) → HasSome (place_token p t b k)
placed p Token.begin_object b k = allowed (may_begin p) Token.begin_object k fresh
placed p Token.end_object b k = allowed (may_close p) Token.end_object k after_value
placed p Token.begin_array b k = allowed (may_begin p) Token.begin_array k fresh
placed p Token.end_array b k = allowed (may_close p) Token.end_array k after_value
placed p (Token.key s) b k = tt
placed p (Token.string s) true k = allowed (may_begin p) (Token.key s) k after_key
placed p (Token.string s) false k = allowed (may_begin p) (Token.string s) k after_value
placed p (Token.number s) b k = allowed (may_begin p) (Token.number s) k after_value
placed p (Token.boolean v) b k = allowed (may_begin p) (Token.boolean v) k after_value
placed p Token.null b k = allowed (may_begin p) Token.null k after_value
placed p Token.bad b k = tt

comma_more : (ls : List Lexeme) → HasSome (punctuate after_comma ls)
unfolding punctuate
comma_more [] = tt
comma_more (token t ∷ ls) = placed after_comma t (begins_colon ls) (λ q. punctuate q ls)
comma_more (comma ∷ ls) = tt
comma_more (colon ∷ ls) = tt

some_more : (ls : List Lexeme) → HasSome ls → HasSome (punctuate after_value ls)
unfolding punctuate
some_more [] h = absurd h
some_more (token t ∷ ls) h = placed after_value t (begins_colon ls) (λ q. punctuate q ls)
some_more (comma ∷ ls) h = comma_more ls
some_more (colon ∷ ls) h = tt

some_byte : (c : Class) (x : ℕ) (xs : List ℕ) (k : Mode → List Lexeme) → HasSome (k between) → HasSome (lex_byte between c x xs k)
some_byte quote x xs k h = tt
some_byte backslash x xs k h = tt
some_byte operator x xs k h = tt
some_byte space x xs k h = h
some_byte other x xs k h = tt

brace_left : (xs : List ℕ) → HasSome (lex between (xs ++ 125 ∷ []))
unfolding lex
brace_left [] = tt
brace_left (x ∷ xs) = some_byte (class x) x (xs ++ 125 ∷ []) (λ m. lex m (xs ++ 125 ∷ [])) (brace_left xs)

-- ---- a text that is read goes up to its own brace

abbrev read_tokens : Option (Json × List Token) → Option Data
read_tokens o = option_and_then of_json (option_and_then (λ p. if_last p.0 p.1) o)

whole : (o : Option (Json × List Token)) (d : Data) → read_tokens o ≡ Some d → left o ≡ Some []
whole None d e = absurd (none-some d e)
whole (Some (j, [])) d e = refl
whole (Some (j, t ∷ ts)) d e = absurd (none-some d e)

tokens_of_object : (xs : List ℕ) → tokens (123 ∷ xs) ≡ Token.begin_object ∷ punctuate fresh (lex between xs)
unfolding lex punctuate
tokens_of_object xs = refl

passed : (xs : List ℕ) (d : Data) → read (123 ∷ xs) ≡ Some d → past 1 (punctuate fresh (lex between xs)) ≡ Some []
unfolding past
passed xs d e =
    let ts = punctuate fresh (lex between xs) in
    let rest : left (value max_depth (Token.begin_object ∷ ts)) ≡ Some [] = whole _ d (ap (λ us. read_tokens (value max_depth us)) (sym (tokens_of_object xs)) ∙ e) in
    Closes-object max_depth ts [] (omega arith) rest 0

abbrev Closed : List ℕ → Type 0
Closed xs = (ys : List ℕ) × (behind 1 between xs ≡ Some ys) × ([] ≡ punctuate after_value (lex between ys))

closed : (xs : List ℕ) (d : Data) → read (123 ∷ xs) ≡ Some d → Closed xs
closed xs d e = agrees xs between fresh 0 [] (passed xs d e)

never_both : (xs ys : List ℕ) → Closed xs → Closed (xs ++ (ys ++ 125 ∷ [])) → ⊥
never_both xs ys front all =
    let rest : all.0 ≡ front.0 ++ (ys ++ 125 ∷ []) = same_Some _ _ (sym all.1 ∙ behind-append xs (ys ++ 125 ∷ []) front.0 1 between front.1) in
    let end = rest ∙ sym (append_assoc front.0 ys (125 ∷ [])) in
    subst HasSome (sym all.2) (some_more (lex between all.0) (subst (λ zs. HasSome (lex between zs)) (sym end) (brace_left (front.0 ++ ys))))

-- ---- so no front of it is read

nothing : read [] ≡ None
unfolding lex punctuate
nothing = ap read_tokens (value_is max_depth [])

unread : (xs : List ℕ) → ((d : Data) → read xs ≡ Some d → ⊥) → (o : Option Data) → read xs ≡ o → read xs ≡ None
unread xs never None e = e
unread xs never (Some d) e = absurd (never d e)

pub front_unread : (body : List ℕ) (d : Data) (k : ℕ) → read (123 ∷ (body ++ 125 ∷ [])) ≡ Some d → k < length (123 ∷ (body ++ 125 ∷ [])) → read (take k (123 ∷ (body ++ 125 ∷ []))) ≡ None
front_unread body d zero e less = nothing
front_unread body d (suc k) e less =
    let within : k ≤ length body = omega (arith, length-append body (125 ∷ [])) in
    let front : take k (body ++ 125 ∷ []) ≡ take k body = take-append-le k body (125 ∷ []) within in
    let parts : body ++ 125 ∷ [] ≡ take k body ++ (drop k body ++ 125 ∷ []) = ap (λ l. l ++ 125 ∷ []) (sym (take-append-drop k body)) ∙ append_assoc (take k body) (drop k body) (125 ∷ []) in
    ap (λ l. read (123 ∷ l)) front ∙ unread (123 ∷ take k body) (λ f g. never_both (take k body) (drop k body) (closed (take k body) f g) (subst Closed parts (closed (body ++ 125 ∷ []) d e))) _ refl

-- ---- the text of an object ends with its brace

ends : (later : Bool) (ms : Members) → (body : List ℕ) × (members_text later ms ≡ body ++ 125 ∷ [])
ends later no_members = ([], refl)
ends later (member k d ms) =
    let rest = ends true ms in
    (comma_if later ++ (quoted k ++ 58 ∷ (compact_text d ++ rest.0)), ap (λ l. comma_if later ++ (quoted k ++ 58 ∷ (compact_text d ++ l))) rest.1 ∙ simp append_assoc)

pub object_cut_unread : (ms : Members) (d : Data) (k : ℕ) → read (compact_text (object ms)) ≡ Some d → k < length (compact_text (object ms)) → read (take k (compact_text (object ms))) ≡ None
object_cut_unread ms d k =
    let end = ends false ms in
    subst (λ l. read (123 ∷ l) ≡ Some d → k < length (123 ∷ l) → read (take k (123 ∷ l)) ≡ None) (sym end.1) (front_unread end.0 d k)
