-- Lists that agree place by place.
use Rattle.std.specs.Prelude.{◌≡◌, ℕ, ◌+◌, ◌<◌, zero, suc, List, [], ◌∷◌, ◌++◌, length, map, take, drop, get_or, Some, slice_get, refl}
use Rattle.std.specs.List.{AllZip}
use Rattle.std.proofs.Common.{sym, ap, ◌∙◌, subst, arith}
use Rattle.std.proofs.lemmas.List.{drop_more, take_more}
use Rattle.std.proofs.lemmas.Slice.Zip.{all_zipped_more}
use Rattle.std.proofs.lemmas.Option.{none-some, same_Some}

module _ {A B : Type 0} (R : A → B → Type 0) where
  pub zip_next : (xs : List A) (i : ℕ) (y : B) (ys : List B) → i < length xs → AllZip R (drop i xs) (y ∷ ys) → AllZip R (drop (i + 1) xs) ys
  zip_next [] i y ys lt h = absurd (omega (arith, lt))
  zip_next (x ∷ xs) i y ys lt h = (subst (λ zs. AllZip R zs (y ∷ ys)) (drop_more (x ∷ xs) i x lt) h).1

  pub zip_taken : (xs : List A) (i : ℕ) (x : A) (ys : List B) (y : B) → i < length xs → x ≡ get_or xs i x → AllZip R (take i xs) ys → R x y → AllZip R (take (i + 1) xs) (ys ++ y ∷ [])
  zip_taken xs i x ys y lt is h r =
      subst (λ zs. AllZip R zs (ys ++ y ∷ [])) (sym (take_more xs i x lt ∙ ap (λ z. take i xs ++ z ∷ []) (sym is)))
      (all_zipped_more R (take i xs) ys x y h r)

  -- by place
  pub zip_left : (xs : List A) (ys : List B) (i : ℕ) (x : A) → AllZip R xs ys → slice_get xs i ≡ Some x → (y : B) × (slice_get ys i ≡ Some y) × R x y
  zip_left [] [] i x h e = absurd (none-some x e)
  zip_left [] (y ∷ ys) i x h e = absurd h
  zip_left (w ∷ xs) [] i x h e = absurd h
  zip_left (w ∷ xs) (y ∷ ys) zero x h e = (y, refl, subst (λ z. R z y) (same_Some w x e) h.0)
  zip_left (w ∷ xs) (y ∷ ys) (suc i) x h e = zip_left xs ys i x h.1 e

  pub zip_right : (xs : List A) (ys : List B) (i : ℕ) (y : B) → AllZip R xs ys → slice_get ys i ≡ Some y → (x : A) × (slice_get xs i ≡ Some x) × R x y
  zip_right [] [] i y h e = absurd (none-some y e)
  zip_right [] (z ∷ ys) i y h e = absurd h
  zip_right (x ∷ xs) [] i y h e = absurd h
  zip_right (x ∷ xs) (z ∷ ys) zero y h e = (x, refl, subst (λ w. R x w) (same_Some z y e) h.0)
  zip_right (x ∷ xs) (z ∷ ys) (suc i) y h e = zip_right xs ys i y h.1 e

  pub zip_same_length : (xs : List A) (ys : List B) → AllZip R xs ys → length xs ≡ length ys
  zip_same_length [] [] h = refl
  zip_same_length [] (y ∷ ys) h = absurd h
  zip_same_length (x ∷ xs) [] h = absurd h
  zip_same_length (x ∷ xs) (y ∷ ys) h = ap suc (zip_same_length xs ys h.1)

-- an image of one side
pub zip_map : {A B C : Type 0} (R : A → B → Type 0) (f : C → B) (xs : List A) (ys : List C) → AllZip R xs (map f ys) → AllZip (λ x y. R x (f y)) xs ys
zip_map R f [] [] h = tt
zip_map R f [] (y ∷ ys) h = absurd h
zip_map R f (x ∷ xs) [] h = absurd h
zip_map R f (x ∷ xs) (y ∷ ys) h = (h.0, zip_map R f xs ys h.1)

pub zip_map_left : {A B C : Type 0} (R : A → B → Type 0) (f : C → A) (xs : List C) (ys : List B) → AllZip R (map f xs) ys → AllZip (λ x y. R (f x) y) xs ys
zip_map_left R f [] [] h = tt
zip_map_left R f [] (y ∷ ys) h = absurd h
zip_map_left R f (x ∷ xs) [] h = absurd h
zip_map_left R f (x ∷ xs) (y ∷ ys) h = (h.0, zip_map_left R f xs ys h.1)

-- a relation that follows
pub zip_weaken : {A B : Type 0} (R S : A → B → Type 0) → ((x : A) (y : B) → R x y → S x y) → (xs : List A) (ys : List B) → AllZip R xs ys → AllZip S xs ys
zip_weaken R S f [] [] h = tt
zip_weaken R S f [] (y ∷ ys) h = absurd h
zip_weaken R S f (x ∷ xs) [] h = absurd h
zip_weaken R S f (x ∷ xs) (y ∷ ys) h = (f x y h.0, zip_weaken R S f xs ys h.1)

pub zip_equal : {A B C : Type 0} (f : A → C) (g : B → C) (xs : List A) (ys : List B) → AllZip (λ x y. g y ≡ f x) xs ys → map g ys ≡ map f xs
zip_equal f g [] [] h = refl
zip_equal f g [] (y ∷ ys) h = absurd h
zip_equal f g (x ∷ xs) [] h = absurd h
zip_equal f g (x ∷ xs) (y ∷ ys) h = ap (λ zs. g y ∷ zs) (zip_equal f g xs ys h.1) ∙ ap (λ z. z ∷ map f xs) h.0

pub map_same : {A : Type 0} (xs : List A) → map (λ x. x) xs ≡ xs
map_same [] = refl
map_same (x ∷ xs) = ap (λ zs. x ∷ zs) (map_same xs)

-- through the list between two others
pub zip_through : {A B C : Type 0} (R : A → B → Type 0) (S : B → C → Type 0) (T : A → C → Type 0) → ((x : A) (y : B) (z : C) → R x y → S y z → T x z)
    → (xs : List A) (ys : List B) (zs : List C) → AllZip R xs ys → AllZip S ys zs → AllZip T xs zs
zip_through R S T f [] [] [] h k = tt
zip_through R S T f [] [] (z ∷ zs) h k = absurd k
zip_through R S T f [] (y ∷ ys) zs h k = absurd h
zip_through R S T f (x ∷ xs) [] zs h k = absurd h
zip_through R S T f (x ∷ xs) (y ∷ ys) [] h k = absurd k
zip_through R S T f (x ∷ xs) (y ∷ ys) (z ∷ zs) h k = (f x y z h.0 k.0, zip_through R S T f xs ys zs h.1 k.1)

-- what is so place by place
pub zip_by_place : {A B : Type 0} (R : A → B → Type 0) (xs : List A) (ys : List B) → length xs ≡ length ys → ((i : ℕ) (x : A) (y : B) → slice_get xs i ≡ Some x → slice_get ys i ≡ Some y → R x y) → AllZip R xs ys
zip_by_place R [] [] e f = tt
zip_by_place R [] (y ∷ ys) e f = absurd (omega (arith, e))
zip_by_place R (x ∷ xs) [] e f = absurd (omega (arith, e))
zip_by_place R (x ∷ xs) (y ∷ ys) e f = (f 0 x y refl refl, zip_by_place R xs ys (omega (arith, e)) (λ i a b g k. f (suc i) a b g k))
