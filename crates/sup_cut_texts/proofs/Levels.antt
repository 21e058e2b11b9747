-- What follows the bracket that closes the level one stands in. A value leaves the level as it was.
use Rattle.std.proofs.Common.{◌≡◌, ℕ, zero, suc, ◌-◌, ◌<◌, List, [], ◌∷◌, length, Option, Some, None, option_and_then, refl, sym, ap, ◌∙◌}
use Rattle.std.proofs.lemmas.Option.{none-some, same_Some}
use Rattle.json.specs.Token.{Token}
use Rattle.json.specs.Json.{Json, array, object, Items, item, Members, member, Parse, parse_map, after_end_array, read_key, items_step, members_step, items, members, value_with, value}
use Rattle.json.proofs.Grammar.{left, left-parse_map, value-begin_object, closed_array, read_key_is}

-- what a token does to the level
pub data Turn : Type 0 where
  opens : Turn
  closes : Turn
  stays : Turn
  stops : Turn

abbrev pub turn : Token → Turn
turn Token.begin_object = opens
turn Token.end_object = closes
turn Token.begin_array = opens
turn Token.end_array = closes
turn (Token.key s) = stays
turn (Token.string s) = stays
turn (Token.number s) = stays
turn (Token.boolean b) = stays
turn Token.null = stays
turn Token.bad = stops

-- goes on at the level after the turn, from n + 1 levels
abbrev pub then_at : {A : Type 0} → Turn → ℕ → (ℕ → Option A) → Option A
then_at opens n go = go (suc (suc n))
then_at closes n go = go n
then_at stays n go = go (suc n)
then_at stops n go = None

-- the tokens behind the bracket that closes the outermost of n levels
unfoldable pub past : ℕ → List Token → Option (List Token)
past zero ts = Some ts
past (suc n) [] = None
past (suc n) (t ∷ ts) = then_at (turn t) n (λ m. past m ts)

abbrev pub Passes : List Token → List Token → Type 0
Passes ts r = (n : ℕ) → past (suc n) ts ≡ past (suc n) r

abbrev pub Closes : List Token → List Token → Type 0
Closes ts r = (n : ℕ) → past (suc n) ts ≡ past n r

abbrev pub Leaves : {A : Type 0} → (List Token → List Token → Type 0) → Parse A → Type 0
Leaves R p = (ts r : List Token) → left (p ts) ≡ Some r → R ts r

then_more : {B : Type 0} (f : Json → B → B) (more : Parse B) (o : Option (Json × List Token)) (ts r : List Token) → Leaves Closes more → ((x : List Token) → left o ≡ Some x → Passes ts x)
    → left (option_and_then (λ q. parse_map (f q.0) (more q.1)) o) ≡ Some r → Closes ts r
then_more f more None ts r again first e = absurd (none-some r e)
then_more f more (Some q) ts r again first e = λ n. first q.1 refl n ∙ again q.1 r (sym (left-parse_map (f q.0) (more q.1)) ∙ e) n

module _ (p : Parse Json) (passes : Leaves Passes p) where
  item_turn : (more : Parse Items) (ts r : List Token) (o : Option (List Token)) → Leaves Closes more → after_end_array ts ≡ o → left (items_step p more ts o) ≡ Some r → Closes ts r
  unfolding past
  item_turn more ts r (Some x) again e f = λ n. ap (past (suc n)) (closed_array ts x e) ∙ ap (past n) (same_Some x r f)
  item_turn more ts r None again e f = then_more item more (p ts) ts r again (passes ts) f

  Closes-items : (n : ℕ) → Leaves Closes (items p n)
  unfolding items
  Closes-items zero ts r e = absurd (none-some r e)
  Closes-items (suc n) ts r e = item_turn (items p n) ts r (after_end_array ts) (Closes-items n) refl e

  member_turn : (more : Parse Members) (ts r : List Token) (o : Option (Option (List ℕ) × List Token)) → Leaves Closes more → read_key ts ≡ o
      → left (option_and_then (λ q. members_step p more q.0 q.1) o) ≡ Some r → Closes ts r
  unfolding past
  member_turn more ts r None again e f = absurd (none-some r f)
  member_turn more ts r (Some (None, s)) again e f = λ n. ap (past (suc n)) (read_key_is ts None s e) ∙ ap (past n) (same_Some s r f)
  member_turn more ts r (Some (Some k, s)) again e f = λ n. ap (past (suc n)) (read_key_is ts (Some k) s e) ∙ then_more (member k) more (p s) s r again (passes s) f n

  Closes-members : (n : ℕ) → Leaves Closes (members p n)
  unfolding members
  Closes-members zero ts r e = absurd (none-some r e)
  Closes-members (suc n) ts r e = member_turn (members p n) ts r (read_key ts) (Closes-members n) refl e

Passes-value_with : (a : Parse Items) (o : Parse Members) → Leaves Closes a → Leaves Closes o → Leaves Passes (value_with a o)
unfolding past
Passes-value_with a o p q [] r e = absurd (none-some r e)
Passes-value_with a o p q (Token.begin_object ∷ ts) r e = λ n. q ts r (sym (left-parse_map object (o ts)) ∙ e) (suc n)
Passes-value_with a o p q (Token.end_object ∷ ts) r e = absurd (none-some r e)
Passes-value_with a o p q (Token.begin_array ∷ ts) r e = λ n. p ts r (sym (left-parse_map array (a ts)) ∙ e) (suc n)
Passes-value_with a o p q (Token.end_array ∷ ts) r e = absurd (none-some r e)
Passes-value_with a o p q (Token.key s ∷ ts) r e = absurd (none-some r e)
Passes-value_with a o p q (Token.string s ∷ ts) r e = λ n. ap (past (suc n)) (same_Some ts r e)
Passes-value_with a o p q (Token.number s ∷ ts) r e = λ n. ap (past (suc n)) (same_Some ts r e)
Passes-value_with a o p q (Token.boolean b ∷ ts) r e = λ n. ap (past (suc n)) (same_Some ts r e)
Passes-value_with a o p q (Token.null ∷ ts) r e = λ n. ap (past (suc n)) (same_Some ts r e)
Passes-value_with a o p q (Token.bad ∷ ts) r e = absurd (none-some r e)

pub Passes-value : (depth : ℕ) → Leaves Passes (value depth)
unfolding value
Passes-value zero = Passes-value_with (λ ts. None) (λ ts. None) (λ ts r e. absurd (none-some r e)) (λ ts r e. absurd (none-some r e))
Passes-value (suc d) =
    Passes-value_with (λ ts. items (value d) (length ts) ts) (λ ts. members (value d) (length ts) ts) (λ ts. Closes-items (value d) (Passes-value d) (length ts) ts) (λ ts. Closes-members (value d) (Passes-value d) (length ts) ts)

-- what follows an object's opening brace closes that level
pub Closes-object : (depth : ℕ) (ts r : List Token) → 0 < depth → left (value depth (Token.begin_object ∷ ts)) ≡ Some r → Closes ts r
Closes-object depth ts r some e =
    Closes-members (value (depth - 1)) (Passes-value (depth - 1)) (length ts) ts r (sym (left-parse_map object _) ∙ ap left (sym (value-begin_object depth ts some)) ∙ e)
