-- Items that differ, as a search among them finds.
use Rattle.std.specs.Prelude.{◌≡◌, Bool, true, false, not, List, [], ◌∷◌, length, IsTrue, refl}
use Rattle.std.specs.List.{list_any, IsDistinct, AllByRecursion}
use Rattle.std.proofs.Common.{sym, ◌∙◌, subst, true≢false}
use Rattle.std.proofs.lemmas.List.{nil_from_length}
use Rattle.std.proofs.lemmas.Map.Keys.{IsDistinct-cons, IsDistinct-head, IsDistinct-tail}
use Rattle.std.proofs.lemmas.Bool.{or_parts, or_from}

not_both : (b : Bool) → b ≡ true → IsTrue (not b) → ⊥
not_both true f t = absurd (true≢false (sym t))
not_both false f t = absurd (true≢false (sym f))

-- d asks the same of two items as e does, whichever comes first
module _ {K : Type 0} (e d : K → K → Bool) (same : (x y : K) → d x y ≡ e y x) where
  pub unfound : (x : K) (xs : List K) → list_any (λ y. d y x) xs ≡ false → AllByRecursion (λ y. e x y ≡ false) xs
  unfound x [] h = tt
  unfound x (y ∷ ys) h = let n = or_parts (d y x) (list_any (λ z. d z x) ys) h in (sym (same y x) ∙ n.0, unfound x ys n.1)

  found : (x : K) (xs : List K) → AllByRecursion (λ y. e x y ≡ false) xs → list_any (λ y. d y x) xs ≡ false
  found x [] h = refl
  found x (y ∷ ys) h = or_from (d y x) (list_any (λ z. d z x) ys) (same y x ∙ h.0) (found x ys h.1)

  -- it differs from the later ones, and these are told apart
  pub apart_more : (x : K) (xs : List K) (here rest : Bool) → here ≡ list_any (λ y. d y x) xs → here ≡ false
      → (IsTrue rest → IsDistinct e xs) × (IsDistinct e xs → IsTrue rest) → (IsTrue rest → IsDistinct e (x ∷ xs)) × (IsDistinct e (x ∷ xs) → IsTrue rest)
  apart_more x xs here rest is none h = (λ t. IsDistinct-cons e x xs (unfound x xs (sym is ∙ none)) (h.0 t), λ a. h.1 (IsDistinct-tail e x xs a))

  -- it stands among the later ones
  pub found_again : (x : K) (xs : List K) (here : Bool) → here ≡ list_any (λ y. d y x) xs → here ≡ true
      → (IsTrue (not here) → IsDistinct e (x ∷ xs)) × (IsDistinct e (x ∷ xs) → IsTrue (not here))
  found_again x xs here is some = (λ t. absurd (not_both here some t), λ a. absurd (true≢false (sym some ∙ is ∙ found x xs (IsDistinct-head e x xs a))))

pub none_apart : {K : Type 0} (e : K → K → Bool) (xs : List K) → length xs ≡ 0 → (IsTrue true → IsDistinct e xs) × (IsDistinct e xs → IsTrue true)
unfolding IsDistinct
none_apart e xs is = (λ t. subst (IsDistinct e) (sym (nil_from_length xs is)) tt, λ a. refl)
