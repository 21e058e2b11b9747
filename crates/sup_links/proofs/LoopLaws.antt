-- The loops over those that wait, one step on.
use Rattle.std.proofs.Common.{◌≡◌, ◌≢◌, ℕ, zero, suc, ◌+◌, ◌-◌, ◌<◌, Bool, true, false, List, [], ◌∷◌, ◌++◌, length, take, drop, set, get_or, refl, ap, ◌∙◌, sym, subst, arith, append_assoc, not}
use Rattle.std.specs.Prelude.{◌==◌, filter, if◌then◌else◌}
use Rattle.std.proofs.lemmas.List.{at_drop_more, drop-set-lt}
use Rattle.std.proofs.lemmas.Bool.{eq-eqb}
use Rattle.std.proofs.lemmas.Bool.Decides.{nat_tests}
use Rattle.sup_links.specs.declared.held.Held.{Held}
use Rattle.sup_links.specs.Texts.{Bytes}
use Rattle.sup_links.specs.Waiting.{waiting, counted, due, kept}

count_next : (now : List Held) (i : ℕ) (d h : Held) → i < length now → h.left ≡ (get_or now i d).left - 1 → h.text.items ≡ (get_or now i d).text.items
    → take (suc i) (waiting (set now i h)) ++ counted (waiting (drop (suc i) (set now i h))) ≡ take i (waiting now) ++ counted (waiting (drop i now))
count_next [] i d h lt l t = absurd (omega arith)
count_next (x ∷ xs) zero d h lt l t = λ j. (l j, t j) ∷ counted (waiting xs)
count_next (x ∷ xs) (suc i) d h lt l t = ap (λ ws. (x.left, x.text.items) ∷ ws) (count_next xs i d h (omega arith) l t)

-- one more is counted
pub count_one : (now : List Held) (i : ℕ) (d h : Held) → i < length now → h.left ≡ (get_or now i d).left - 1 → h.text.items ≡ (get_or now i d).text.items
    → take (i + 1) (waiting (set now i h)) ++ counted (waiting (drop (i + 1) (set now i h))) ≡ take i (waiting now) ++ counted (waiting (drop i now))
count_one now i d h lt l t = let e : suc i ≡ i + 1 = omega arith in
    subst (λ (k : ℕ). take k (waiting (set now i h)) ++ counted (waiting (drop k (set now i h))) ≡ take i (waiting now) ++ counted (waiting (drop i now))) e (count_next now i d h lt l t)

kept_head : (b : Bool) (h : Held) (hs : List Held) → waiting (if not b then h ∷ hs else hs) ≡ (if b then [] else (h.left, h.text.items) ∷ []) ++ waiting hs
kept_head true h hs = refl
kept_head false h hs = refl

gone_if : (t : Bool) (w : ℕ × Bytes) (ws : List (ℕ × Bytes)) → t ≡ true → (if t then [] else w ∷ []) ++ ws ≡ ws
gone_if true w ws e = refl
gone_if false w ws e = cc

gone_is : (left : ℕ) (text : Bytes) (ws : List (ℕ × Bytes)) → left ≡ 0 → kept ((left, text) ∷ ws) ≡ kept ws
gone_is left text ws e = let w : ℕ × Bytes = (left, text) in gone_if (left == 0) w (kept ws) (eq-eqb left 0 e)

not_zero : (n : ℕ) → n ≢ 0 → (n == 0) ≡ false
not_zero n h = grind (arith, nat_tests)

-- what `retain` leaves
pub kept_filter : (hs : List Held) → waiting (filter (λ h. not (h.left == 0)) hs) ≡ kept (waiting hs)
kept_filter [] = refl
kept_filter (h ∷ hs) =
    kept_head (h.left == 0) h (filter (λ x. not (x.left == 0)) hs) ∙ (let w : ℕ × Bytes = (h.left, h.text.items) in ap (λ ws. (if h.left == 0 then [] else w ∷ []) ++ ws) (kept_filter hs))

-- the first so many of those that wait no more have gone, and the others are as they were
pub record Went (was now : List Held) (i : ℕ) (gone : List Bytes) : Type 0 where
  pub order : due (waiting was) ≡ gone ++ due (waiting (drop i now))
  pub others : kept (waiting now) ≡ kept (waiting was)

due_head : (now : List Held) (i : ℕ) (d : Held) → i < length now
    → due (waiting (drop i now)) ≡ (if (get_or now i d).left == 0 then (get_or now i d).text.items ∷ [] else []) ++ due (waiting (drop (i + 1) now))
due_head now i d lt = at_drop_more (λ (hs : List Held). due (waiting hs)) now i d lt

kept_set : (now : List Held) (i : ℕ) (d h : Held) → i < length now → (get_or now i d).left ≡ 0 → h.left ≡ 0 → kept (waiting (set now i h)) ≡ kept (waiting now)
kept_set [] i d h lt a b = refl
kept_set (x ∷ xs) zero d h lt a b = gone_is h.left h.text.items (waiting xs) b ∙ sym (gone_is x.left x.text.items (waiting xs) a)
kept_set (x ∷ xs) (suc i) d h lt a b = let w : ℕ × Bytes = (x.left, x.text.items) in ap (λ ws. (if x.left == 0 then [] else w ∷ []) ++ ws) (kept_set xs i d h (omega arith) a b)

pub next_due : (now : List Held) (i : ℕ) (d : Held) (text : Bytes) → i < length now → (get_or now i d).left ≡ 0 → text ≡ (get_or now i d).text.items
    → due (waiting (drop i now)) ≡ text ∷ [] ++ due (waiting (drop (i + 1) now))
next_due now i d text lt a is = due_head now i d lt
    ∙ (ap (λ t. (if t then (get_or now i d).text.items ∷ [] else []) ++ due (waiting (drop (i + 1) now))) (eq-eqb (get_or now i d).left 0 a) ∙ ap (λ t. t ∷ due (waiting (drop (i + 1) now))) (sym is))

pub went_one : (was now : List Held) (i : ℕ) (d h : Held) (text : Bytes) (gone : List Bytes) → i < length now → (get_or now i d).left ≡ 0 → h.left ≡ 0 → text ≡ (get_or now i d).text.items
    → Went was now i gone → Went was (set now i h) (i + 1) (gone ++ text ∷ [])
went_one was now i d h text gone lt a b is before = record {
  order = before.order
      ∙ (ap (λ l. gone ++ l) (next_due now i d text lt a is)
      ∙ (sym (append_assoc gone (text ∷ []) (due (waiting (drop (i + 1) now))))
      ∙ ap (λ hs. (gone ++ text ∷ []) ++ due (waiting hs)) (sym (drop-set-lt (i + 1) now i h (omega arith)))));
  others = kept_set now i d h lt a b ∙ before.others;
}

pub went_none : (was now : List Held) (i : ℕ) (d : Held) (gone : List Bytes) → i < length now → (get_or now i d).left ≢ 0
    → Went was now i gone → Went was now (i + 1) gone
went_none was now i d gone lt a before = record {
  order = before.order ∙ ap (λ l. gone ++ l) (due_head now i d lt ∙ ap (λ t. (if t then (get_or now i d).text.items ∷ [] else []) ++ due (waiting (drop (i + 1) now))) (not_zero (get_or now i d).left a));
  others = before.others;
}
