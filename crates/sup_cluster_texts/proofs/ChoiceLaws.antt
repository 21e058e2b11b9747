-- What a choice that gave something says of what it was made by.
use Rattle.std.proofs.Common.{◌≡◌, Bool, true, false, List, [], ◌∷◌, ◌++◌, map, Option, Some, None, Result, Ok, Err, if◌then◌else◌, refl, sym, ◌∙◌}
use Rattle.std.specs.List.{list_any, IsDistinct, AllByRecursion}
use Rattle.std.proofs.lemmas.Option.{none-some}
use Rattle.std.proofs.lemmas.Map.Keys.{IsDistinct-cons, IsDistinct-head, IsDistinct-tail}
use Rattle.std.proofs.lemmas.Bool.{or_parts}

pub chosen : {A : Type 0} (b : Bool) (o : Option A) (x : A) → (if b then o else None) ≡ Some x → (b ≡ true) × (o ≡ Some x)
chosen true o x e = (refl, e)
chosen false o x e = absurd (none-some x e)

pub left_out : {A : Type 0} (b : Bool) (o : Option A) (x : A) → (if b then None else o) ≡ Some x → (b ≡ false) × (o ≡ Some x)
left_out true o x e = absurd (none-some x e)
left_out false o x e = (refl, e)

pub not_err : {A E : Type 0} (e : E) (x : A) → ◌≡◌ {A = Result A E} (Err e) (Ok x) → ⊥
not_err e x h = cc

pub same_ok : {A E : Type 0} (x y : A) → ◌≡◌ {A = Result A E} (Ok x) (Ok y) → x ≡ y
same_ok x y h = cc

-- a test that is the same both ways
module _ {K : Type 0} (e : K → K → Bool) (turns : (x y : K) → e x y ≡ e y x) where
  alone : (x y : K) (ys : List K) → AllByRecursion (λ z. e y z ≡ false) ys → e x y ≡ false → AllByRecursion (λ z. e y z ≡ false) (ys ++ x ∷ [])
  alone x y [] h n = (sym (turns x y) ∙ n, tt)
  alone x y (z ∷ zs) h n = (h.0, alone x y zs h.1 n)

  -- one more that none before is like
  pub distinct_push : (xs : List K) (x : K) → IsDistinct e xs → list_any (e x) xs ≡ false → IsDistinct e (xs ++ x ∷ [])
  distinct_push [] x h n = IsDistinct-cons e x [] tt h
  distinct_push (y ∷ ys) x h n =
      let apart = or_parts (e x y) (list_any (e x) ys) n in
      IsDistinct-cons e y (ys ++ x ∷ []) (alone x y ys (IsDistinct-head e y ys h) apart.0) (distinct_push ys x (IsDistinct-tail e y ys h) apart.1)

-- items whose views differ
module _ {K V : Type 0} (view : K → V) (e : V → V → Bool) where
  viewed : (x : K) (xs : List K) → AllByRecursion (λ y. e (view x) y ≡ false) (map view xs) → AllByRecursion (λ y. e (view x) (view y) ≡ false) xs
  viewed x [] h = tt
  viewed x (y ∷ ys) h = (h.0, viewed x ys h.1)

  pub distinct_views : (xs : List K) → IsDistinct e (map view xs) → IsDistinct (λ x y. e (view x) (view y)) xs
  unfolding IsDistinct
  distinct_views [] h = tt
  distinct_views (x ∷ xs) h = IsDistinct-cons (λ a b. e (view a) (view b)) x xs (viewed x xs (IsDistinct-head e (view x) (map view xs) h)) (distinct_views xs (IsDistinct-tail e (view x) (map view xs) h))
