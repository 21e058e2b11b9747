-- Shuffles of images are images of shuffles.
use Rattle.std.proofs.Common.{◌≡◌, List, [], ◌∷◌, ◌++◌, map, flat_map, refl, ap, ◌∙◌, sym, subst, inl, inr, ⊎_elim}
use Rattle.std.proofs.lemmas.List.{map-append}
use mathlib.Core.Option.{some, some-injective}
use Rattle.sup_node_gate.specs.Shuffles.{IsShuffle, IsShuffleOf}

module _ {A B : Type 0} (f : A → B) where
  no_image : (xs : List A) → map f xs ≡ [] → xs ≡ []
  no_image [] e = refl
  no_image (x ∷ xs) e = absurd cc

  abbrev Imaged : List A → List A → List B → Type 0
  Imaged xs ys zs = (ws : List A) × (zs ≡ map f ws) × IsShuffle xs ys ws

  from_left : (xs ys : List A) (z : B) (zs rest : List B) → ((us : List A) → rest ≡ map f us → Imaged us ys zs) → map f xs ≡ z ∷ rest → Imaged xs ys (z ∷ zs)
  from_left [] ys z zs rest again e = absurd cc
  from_left (x ∷ xs) ys z zs rest again e = let head : f x ≡ z = cc in let tail : map f xs ≡ rest = cc in let r = again xs (sym tail) in
      (x ∷ r.0, (λ i. sym head i ∷ r.1 i), inl (xs, refl, r.2))

  from_right : (xs ys : List A) (z : B) (zs rest : List B) → ((us : List A) → rest ≡ map f us → Imaged xs us zs) → map f ys ≡ z ∷ rest → Imaged xs ys (z ∷ zs)
  from_right xs [] z zs rest again e = absurd cc
  from_right xs (y ∷ ys) z zs rest again e = let head : f y ≡ z = cc in let tail : map f ys ≡ rest = cc in let r = again ys (sym tail) in
      (y ∷ r.0, (λ i. sym head i ∷ r.1 i), inr (ys, refl, r.2))

  shuffle_image : (zs : List B) (xs ys : List A) → IsShuffle (map f xs) (map f ys) zs → Imaged xs ys zs
  shuffle_image [] xs ys s = ([], refl, (no_image xs s.0, no_image ys s.1))
  shuffle_image (z ∷ zs) xs ys s = ⊎_elim
      (λ (l : (rest : List B) × (map f xs ≡ z ∷ rest) × IsShuffle rest (map f ys) zs). from_left xs ys z zs l.0
      (λ us e. shuffle_image zs us ys (subst (λ k. IsShuffle k (map f ys) zs) e l.2)) l.1)
      (λ (r : (rest : List B) × (map f ys ≡ z ∷ rest) × IsShuffle (map f xs) rest zs). from_right xs ys z zs r.0
      (λ us e. shuffle_image zs xs us (subst (λ k. IsShuffle (map f xs) k zs) e r.2)) r.1) s

  pub shuffle_of_images : ((xs ys : List A) → map f xs ≡ map f ys → xs ≡ ys) → (others : List (List A)) (first all : List A) → IsShuffleOf (map f first) (map (map f) others) (map f all) → IsShuffleOf first others all
  shuffle_of_images one [] first all s = one first all s
  shuffle_of_images one (ys ∷ others) first all s = let r = shuffle_image s.0 first ys s.1 in
      (r.0, r.2, shuffle_of_images one others r.0 all (subst (λ k. IsShuffleOf k (map (map f) others) (map f all)) r.1 s.2))

  -- lists put in a row, and their images
  pub row_image : (rounds : List (List A)) → flat_map (map f) rounds ≡ map f (flat_map (λ round. round) rounds)
  row_image [] = refl
  row_image (round ∷ rounds) = ap (λ l. map f round ++ l) (row_image rounds) ∙ sym (map-append f round (flat_map (λ r. r) rounds))

pub some_injective : {A : Type 0} (xs ys : List A) → map some xs ≡ map some ys → xs ≡ ys
some_injective [] [] e = refl
some_injective [] (y ∷ ys) e = absurd cc
some_injective (x ∷ xs) [] e = absurd cc
some_injective {A} (x ∷ xs) (y ∷ ys) e = let head : some x ≡ some y = cc in let tail : map some xs ≡ map some ys = cc in (λ i. some-injective x y head i ∷ some_injective xs ys tail i)
