-- What follows a closing bracket, over bytes. There a front and the whole text agree, and tokens agree with both.
use Rattle.std.proofs.Common.{◌≡◌, ℕ, zero, suc, ◌==◌, Bool, true, false, cond, List, [], ◌∷◌, ◌++◌, Option, Some, None, refl, sym, ap}
use Rattle.std.specs.Prelude.{⊤}
use Rattle.std.proofs.lemmas.Option.{none-some, same_Some}
use Rattle.json.specs.Token.{Token, bad}
use Rattle.json.specs.Text.{content, plain}
use Rattle.json.specs.Word.{head, ends_word, after_number, number_before, word}
use Rattle.json.specs.Lex.{Lexeme, token, comma, colon, Class, quote, backslash, operator, space, other, class, operator_lexeme, string_token, Mode, between, in_word, in_string, in_escape, lex_byte, lex}
use Rattle.json.specs.Lex.{Place, fresh, after_value, after_comma, after_key, begins_colon, may_begin, may_close, if_allowed, place_token, punctuate}
use Rattle.sup_cut_texts.proofs.Levels.{Turn, opens, closes, stays, stops, turn, then_at, past}

abbrev next_mode : Mode → Class → Mode
next_mode between quote = in_string
next_mode between backslash = in_word
next_mode between operator = between
next_mode between space = between
next_mode between other = in_word
next_mode in_word quote = in_word
next_mode in_word backslash = in_word
next_mode in_word operator = between
next_mode in_word space = between
next_mode in_word other = in_word
next_mode in_string quote = between
next_mode in_string backslash = in_escape
next_mode in_string operator = in_string
next_mode in_string space = in_string
next_mode in_string other = in_string
next_mode in_escape c = in_string

abbrev lexeme_turn : Lexeme → Turn
lexeme_turn (token t) = turn t
lexeme_turn comma = stays
lexeme_turn colon = stays

-- an operator turns the level outside of strings, and nothing else does
abbrev byte_turn : Mode → Class → ℕ → Turn
byte_turn between quote x = stays
byte_turn between backslash x = stays
byte_turn between operator x = lexeme_turn (operator_lexeme x)
byte_turn between space x = stays
byte_turn between other x = stays
byte_turn in_word quote x = stays
byte_turn in_word backslash x = stays
byte_turn in_word operator x = lexeme_turn (operator_lexeme x)
byte_turn in_word space x = stays
byte_turn in_word other x = stays
byte_turn in_string c x = stays
byte_turn in_escape c x = stays

-- the bytes behind the bracket that closes the outermost of n levels
unfoldable pub behind : ℕ → Mode → List ℕ → Option (List ℕ)
behind zero m xs = Some xs
behind (suc n) m [] = None
behind (suc n) m (x ∷ xs) = then_at (byte_turn m (class x) x) n (λ k. behind k (next_mode m (class x)) xs)

-- ---- what follows a front plays no part in it

then_more : (t : Turn) (n : ℕ) (f g : ℕ → Option (List ℕ)) (r s : List ℕ) → ((k : ℕ) → f k ≡ Some r → g k ≡ Some s) → then_at t n f ≡ Some r → then_at t n g ≡ Some s
then_more opens n f g r s h e = h (suc (suc n)) e
then_more closes n f g r s h e = h n e
then_more stays n f g r s h e = h (suc n) e
then_more stops n f g r s h e = absurd (none-some r e)

pub behind-append : (xs ys r : List ℕ) (n : ℕ) (m : Mode) → behind n m xs ≡ Some r → behind n m (xs ++ ys) ≡ Some (r ++ ys)
unfolding behind
behind-append [] ys r zero m e = ap (λ l. Some (l ++ ys)) (same_Some [] r e)
behind-append [] ys r (suc n) m e = absurd (none-some r e)
behind-append (x ∷ xs) ys r zero m e = ap (λ l. Some (l ++ ys)) (same_Some (x ∷ xs) r e)
behind-append (x ∷ xs) ys r (suc n) m e =
    then_more (byte_turn m (class x) x) n (λ k. behind k (next_mode m (class x)) xs) (λ k. behind k (next_mode m (class x)) (xs ++ ys)) r (r ++ ys) (λ k. behind-append xs ys r k (next_mode m (class x))) e

-- ---- one lexeme

-- what is known behind a lexeme of that turn, of tokens that are passed
abbrev Step : Turn → ℕ → (Place → List Token) → List Token → Type 0
Step opens n k r = past (suc (suc n)) (k fresh) ≡ Some r
Step closes n k r = past n (k after_value) ≡ Some r
Step stays n k r = (q : Place) × (past (suc n) (k q) ≡ Some r)
Step stops n k r = ⊥

allowed : (b : Bool) (t : Token) (k : Place → List Token) (q : Place) (n : ℕ) (r : List Token) → past (suc n) (if_allowed b t k q) ≡ Some r → past (suc n) (t ∷ k q) ≡ Some r
unfolding past
allowed true t k q n r e = e
allowed false t k q n r e = absurd (none-some r e)

token_step : (p : Place) (t : Token) (b : Bool) (k : Place → List Token) (n : ℕ) (r : List Token) → past (suc n) (place_token p t b k) ≡ Some r → Step (turn t) n k r
unfolding past
token_step p Token.begin_object b k n r e = allowed (may_begin p) Token.begin_object k fresh n r e
token_step p Token.end_object b k n r e = allowed (may_close p) Token.end_object k after_value n r e
token_step p Token.begin_array b k n r e = allowed (may_begin p) Token.begin_array k fresh n r e
token_step p Token.end_array b k n r e = allowed (may_close p) Token.end_array k after_value n r e
token_step p (Token.key s) b k n r e = absurd (none-some r e)
token_step p (Token.string s) true k n r e = (after_key, allowed (may_begin p) (Token.key s) k after_key n r e)
token_step p (Token.string s) false k n r e = (after_value, allowed (may_begin p) (Token.string s) k after_value n r e)
token_step p (Token.number s) b k n r e = (after_value, allowed (may_begin p) (Token.number s) k after_value n r e)
token_step p (Token.boolean v) b k n r e = (after_value, allowed (may_begin p) (Token.boolean v) k after_value n r e)
token_step p Token.null b k n r e = (after_value, allowed (may_begin p) Token.null k after_value n r e)
token_step p Token.bad b k n r e = absurd (none-some r e)

lexeme_step : (l : Lexeme) (p : Place) (ls : List Lexeme) (n : ℕ) (r : List Token) → past (suc n) (punctuate p (l ∷ ls)) ≡ Some r → Step (lexeme_turn l) n (λ q. punctuate q ls) r
unfolding past punctuate
lexeme_step (token t) p ls n r e = token_step p t (begins_colon ls) (λ q. punctuate q ls) n r e
lexeme_step comma fresh ls n r e = absurd (none-some r e)
lexeme_step comma after_value ls n r e = (after_comma, e)
lexeme_step comma after_comma ls n r e = absurd (none-some r e)
lexeme_step comma after_key ls n r e = absurd (none-some r e)
lexeme_step colon fresh ls n r e = absurd (none-some r e)
lexeme_step colon after_value ls n r e = absurd (none-some r e)
lexeme_step colon after_comma ls n r e = absurd (none-some r e)
lexeme_step colon after_key ls n r e = (fresh, e)

-- strings and words turn no level
abbrev IsFlat : Turn → Type 0
IsFlat opens = ⊥
IsFlat closes = ⊥
IsFlat stays = ⊤
IsFlat stops = ⊤

flat_step : (t : Turn) (n : ℕ) (k : Place → List Token) (r : List Token) → IsFlat t → Step t n k r → (q : Place) × (past (suc n) (k q) ≡ Some r)
flat_step opens n k r flat s = absurd flat
flat_step closes n k r flat s = absurd flat
flat_step stays n k r flat s = s
flat_step stops n k r flat s = absurd s

flat_string : (o : Option (List ℕ)) → IsFlat (turn (string_token o))
flat_string None = tt
flat_string (Some s) = tt

either : (b : Bool) (x y : Token) → IsFlat (turn x) → IsFlat (turn y) → IsFlat (turn (cond b x y))
either true x y p q = p
either false x y p q = q

flat_number : (t : List ℕ) (o : Option (List ℕ)) → IsFlat (turn (number_before t o))
flat_number t None = tt
flat_number t (Some u) = either (ends_word u) _ bad tt tt

flat_word : (t : List ℕ) → IsFlat (turn (word t))
unfolding word
flat_word t =
    either (head t == 116) _ _ (either _ (Token.boolean true) bad tt tt) (either (head t == 102) _ _ (either _ (Token.boolean false) bad tt tt)
    (either (head t == 110) _ _ (either _ Token.null bad tt tt) (flat_number t (after_number t))))

-- ---- tokens and bytes are passed alike

-- the tokens that are left are those of the bytes that are left
abbrev Ends : Option (List ℕ) → List Token → Type 0
Ends o r = (ys : List ℕ) × (o ≡ Some ys) × (r ≡ punctuate after_value (lex between ys))

abbrev Agrees : List ℕ → Type 0
Agrees xs = (m : Mode) (p : Place) (n : ℕ) (r : List Token) → past (suc n) (punctuate p (lex m xs)) ≡ Some r → Ends (behind (suc n) m xs) r

closed : (xs : List ℕ) → Agrees xs → (n : ℕ) (r : List Token) → past n (punctuate after_value (lex between xs)) ≡ Some r → Ends (behind n between xs) r
unfolding past behind
closed xs again zero r e = (xs, refl, sym (same_Some _ r e))
closed xs again (suc n) r e = again between after_value n r e

module _ (xs : List ℕ) (again : Agrees xs) where
  mark : (t : Turn) (n : ℕ) (r : List Token) → Step t n (λ q. punctuate q (lex between xs)) r → Ends (then_at t n (λ k. behind k between xs)) r
  mark opens n r s = again between fresh (suc n) r s
  mark closes n r s = closed xs again n r s
  mark stays n r s = again between s.0 n r s.1
  mark stops n r s = absurd s

  long : (t : Token) → IsFlat (turn t) → (m : Mode) (p : Place) (n : ℕ) (r : List Token) → past (suc n) (punctuate p (token t ∷ lex m xs)) ≡ Some r → Ends (behind (suc n) m xs) r
  long t flat m p n r e = let s = flat_step (turn t) n (λ q. punctuate q (lex m xs)) r flat (lexeme_step (token t) p (lex m xs) n r e) in again m s.0 n r s.1

  byte : (m : Mode) (c : Class) (x : ℕ) (p : Place) (n : ℕ) (r : List Token) → past (suc n) (punctuate p (lex_byte m c x xs (λ next. lex next xs))) ≡ Some r
      → Ends (then_at (byte_turn m c x) n (λ k. behind k (next_mode m c) xs)) r
  byte between quote x p n r e = long _ (flat_string (content plain xs)) in_string p n r e
  byte between backslash x p n r e = long bad tt in_word p n r e
  byte between operator x p n r e = mark _ n r (lexeme_step (operator_lexeme x) p (lex between xs) n r e)
  byte between space x p n r e = again between p n r e
  byte between other x p n r e = long _ (flat_word (x ∷ xs)) in_word p n r e
  byte in_word quote x p n r e = again in_word p n r e
  byte in_word backslash x p n r e = again in_word p n r e
  byte in_word operator x p n r e = mark _ n r (lexeme_step (operator_lexeme x) p (lex between xs) n r e)
  byte in_word space x p n r e = again between p n r e
  byte in_word other x p n r e = again in_word p n r e
  byte in_string quote x p n r e = again between p n r e
  byte in_string backslash x p n r e = again in_escape p n r e
  byte in_string operator x p n r e = again in_string p n r e
  byte in_string space x p n r e = again in_string p n r e
  byte in_string other x p n r e = again in_string p n r e
  byte in_escape c x p n r e = again in_string p n r e

nothing_past : (p : Place) (n : ℕ) (r : List Token) → past (suc n) (punctuate p []) ≡ Some r → ⊥
unfolding past punctuate
nothing_past fresh n r e = none-some r e
nothing_past after_value n r e = none-some r e
nothing_past after_comma n r e = none-some r e
nothing_past after_key n r e = none-some r e

pub agrees : (xs : List ℕ) → Agrees xs
unfolding lex behind
agrees [] m p n r e = absurd (nothing_past p n r e)
agrees (x ∷ xs) m p n r e = byte xs (agrees xs) m (class x) x p n r e
