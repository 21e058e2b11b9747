-- The greatest counter of a node among dots.
use Rattle.std.specs.Prelude.{◌≡◌, ℕ, zero, suc, ◌≤◌, ◌<◌, max, Bool, true, false, ◌||◌, cond, List, [], ◌∷◌, map, filter, refl}
use Rattle.std.specs.Ordering.{eq_by_cmp, is_eq}
use Rattle.std.proofs.Common.{sym, ap, ◌∙◌, subst, arith, ◌⊎◌, inl, inr}
use Rattle.std.specs.Cmp.{Equal-is, tied_itself}
use Rattle.std.proofs.lemmas.Bool.{or_left, or_right}
use mathlib.Core.Bool.{true≢false}
use Rattle.sup_specs.specs.Values.{Bytes, text_cmp}
use Rattle.sup_specs.specs.OrderLaws.{text_total, text_tie}
use Rattle.sup_specs.specs.Rising.{among}
use Rattle.sup_causal.specs.declared.dot.Dot.{Dot}
use Rattle.sup_causal.specs.Dots.{dot_cmp, dot_eq, IsGreatest}
use Rattle.sup_causal.specs.Greatest.{greatest_of, greatest_in}
use Rattle.sup_causal.proofs.DotLemmas.{dot_eq-refl, dot_eq-true}

suc_max : (n m : ℕ) → (max n m ≡ n) ⊎ (max n m ≡ m) → (max (suc n) (suc m) ≡ suc n) ⊎ (max (suc n) (suc m) ≡ suc m)
suc_max n m (inl e) = inl (omega arith)
suc_max n m (inr e) = inr (omega arith)

either_max : (n m : ℕ) → (max n m ≡ n) ⊎ (max n m ≡ m)
either_max zero m = inr (omega arith)
either_max (suc n) zero = inl (omega arith)
either_max (suc n) (suc m) = suc_max n m (either_max n m)

module _ (node : Bytes) where
  abbrev own : List Dot → List Dot
  own ds = filter (λ d. eq_by_cmp text_cmp node d.node) ds

  abbrev top : List Dot → ℕ
  top ds = greatest_of (map (λ d. d.counter) ds)

  abbrev at_top : ℕ → Dot
  at_top n = record { counter = n; node = node }

  text_itself : eq_by_cmp text_cmp node node ≡ true
  text_itself = ap is_eq (tied_itself text_total node)

  same_text : (l : Bytes) → eq_by_cmp text_cmp node l ≡ true → node ≡ l
  same_text l e = text_tie node l ((Equal-is _).0 e)

  more : (b : Bool) (e : Dot) (fs : List Dot) (n : ℕ) → n ≤ top fs → n ≤ top (cond b (e ∷ fs) fs)
  more true e fs n h = omega arith
  more false e fs n h = h

  here : (b : Bool) (e : Dot) (fs : List Dot) → b ≡ true → e.counter ≤ top (cond b (e ∷ fs) fs)
  here true e fs h = omega arith
  here false e fs h = absurd (true≢false (sym h))

  bound_at : (x : Dot) (xs : List Dot) (d : Dot) → d.node ≡ node → (among dot_cmp xs d ≡ true → d.counter ≤ top (own xs)) → (b : Bool) → dot_eq d x ≡ b → (b || among dot_cmp xs d) ≡ true
      → d.counter ≤ top (own (x ∷ xs))
  bound_at x xs d mine rest true h all =
      let same : d ≡ x = dot_eq-true d x h in
      subst (λ (y : Dot). y.counter ≤ top (own (x ∷ xs))) (sym same)
      (here (eq_by_cmp text_cmp node x.node) x (own xs) (ap (eq_by_cmp text_cmp node) (ap (λ (y : Dot). y.node) (sym same) ∙ mine) ∙ text_itself))
  bound_at x xs d mine rest false h all = more (eq_by_cmp text_cmp node x.node) x (own xs) d.counter (rest all)

  bound : (ds : List Dot) (d : Dot) → d.node ≡ node → among dot_cmp ds d ≡ true → d.counter ≤ top (own ds)
  bound [] d mine e = absurd (true≢false (sym e))
  bound (x ∷ xs) d mine e = bound_at x xs d mine (bound xs d mine) (dot_eq d x) refl e

  first_reached : (x : Dot) (xs : List Dot) (n : ℕ) → node ≡ x.node → n ≡ x.counter → among dot_cmp (x ∷ xs) (at_top n) ≡ true
  first_reached x xs n mine is =
      let same : at_top n ≡ x = λ i. record { counter = is i; node = mine i } in
      or_left _ (among dot_cmp xs (at_top n)) (ap (λ y. dot_eq y x) same ∙ dot_eq-refl x)

  later_reached : (x : Dot) (xs : List Dot) (n m : ℕ) → n ≡ m → among dot_cmp xs (at_top m) ≡ true → among dot_cmp (x ∷ xs) (at_top n) ≡ true
  later_reached x xs n m is e = or_right (dot_eq (at_top n) x) _ (ap (λ k. among dot_cmp xs (at_top k)) is ∙ e)

  reached_max : (x : Dot) (xs : List Dot) (m : ℕ) → node ≡ x.node → (0 < m → among dot_cmp xs (at_top m) ≡ true) → 0 < max x.counter m → (max x.counter m ≡ x.counter) ⊎ (max x.counter m ≡ m)
      → among dot_cmp (x ∷ xs) (at_top (max x.counter m)) ≡ true
  reached_max x xs m mine rest pos (inl e) = first_reached x xs (max x.counter m) mine e
  reached_max x xs m mine rest pos (inr e) = later_reached x xs (max x.counter m) m e (rest (omega arith))

  reached_at : (x : Dot) (xs fs : List Dot) → (0 < top fs → among dot_cmp xs (at_top (top fs)) ≡ true) → (b : Bool) → eq_by_cmp text_cmp node x.node ≡ b → 0 < top (cond b (x ∷ fs) fs)
      → among dot_cmp (x ∷ xs) (at_top (top (cond b (x ∷ fs) fs))) ≡ true
  reached_at x xs fs rest true h pos = reached_max x xs (top fs) (same_text x.node h) rest pos (either_max x.counter (top fs))
  reached_at x xs fs rest false h pos = later_reached x xs (top fs) (top fs) refl (rest pos)

  reached : (ds : List Dot) → 0 < top (own ds) → among dot_cmp ds (at_top (top (own ds))) ≡ true
  reached [] pos = absurd (omega arith)
  reached (x ∷ xs) pos = reached_at x xs (own xs) (reached xs) (eq_by_cmp text_cmp node x.node) refl pos

-- the greatest counter by its definition is the greatest of the dots that are among them
pub among_greatest : (dots : List Dot) (node : Bytes) → IsGreatest (among dot_cmp dots) node (greatest_in dots node)
among_greatest dots node = record { bound = bound node dots; reached = reached node dots }

at_most : (holds : Dot → Bool) (node : Bytes) (n m : ℕ) → IsGreatest holds node n → IsGreatest holds node m → n ≤ m
at_most holds node zero m a b = omega arith
at_most holds node (suc n) m a b = b.bound (record { counter = suc n; node = node }) refl (a.reached (omega arith))

-- there is one greatest counter
pub one_greatest : (holds : Dot → Bool) (node : Bytes) (n m : ℕ) → IsGreatest holds node n → IsGreatest holds node m → n ≡ m
one_greatest holds node n m a b = let le = at_most holds node n m a b in let ge = at_most holds node m n b a in omega arith

-- the same of two tests that agree
pub of_same : (holds others : Dot → Bool) → ((d : Dot) → holds d ≡ others d) → (node : Bytes) (n : ℕ) → IsGreatest holds node n → IsGreatest others node n
of_same holds others same node n g = record { bound = λ d mine k. g.bound d mine (same d ∙ k); reached = λ pos. sym (same (record { counter = n; node = node })) ∙ g.reached pos }

-- the greatest counter of the dots of a list is given by the definition
pub greatest_is_in : (dots : List Dot) (node : Bytes) (n : ℕ) → IsGreatest (among dot_cmp dots) node n → n ≡ greatest_in dots node
greatest_is_in dots node n g = one_greatest (among dot_cmp dots) node n (greatest_in dots node) g (among_greatest dots node)
