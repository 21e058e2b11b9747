-- Lists of places that rise, put together, are a shuffle of both.
use Rattle.std.proofs.Common.{◌≡◌, ℕ, suc, List, [], ◌∷◌, map, refl, ap, sym, subst, inl, inr, ⊎_elim, arith}
use Rattle.sup_node_gate.specs.Shuffles.{IsShuffle}
use Rattle.sup_node_gate.specs.Views.{IsAmongPlaces, PlacesRise, placed, merged}
use Rattle.sup_node_gate.proofs.PlaceListLaws.{above, cases, below, placed_there, rises_placed, rises_merged, stands_placed}

shuffle_self : {A : Type 0} (xs : List A) → IsShuffle xs [] xs
shuffle_self [] = (refl, refl)
shuffle_self (x ∷ xs) = inl (xs, refl, shuffle_self xs)

shuffle_has : (zs xs ys : List ℕ) (q : ℕ) → IsShuffle xs ys zs → IsAmongPlaces q xs → IsAmongPlaces q zs
shuffle_has [] xs ys q s among = subst (IsAmongPlaces q) s.0 among
shuffle_has (z ∷ zs) xs ys q s among = ⊎_elim
    (λ (l : (rest : List ℕ) × (xs ≡ z ∷ rest) × IsShuffle rest ys zs). ⊎_elim (λ (e : q ≡ z). inl e) (λ (t : IsAmongPlaces q l.0). inr (shuffle_has zs l.0 ys q l.2 t)) (subst (IsAmongPlaces q) l.1 among))
    (λ (r : (rest : List ℕ) × (ys ≡ z ∷ rest) × IsShuffle xs rest zs). inr (shuffle_has zs xs r.0 q r.2 among)) s

head_is : (x z : ℕ) (xs zs : List ℕ) → x ∷ xs ≡ z ∷ zs → (x ≡ z) × (xs ≡ zs)
head_is x z xs zs e = (cc, cc)

moved_left : (zs xs ys : List ℕ) (y z : ℕ) → ((us : List ℕ) → IsShuffle (placed y us) ys zs → IsShuffle us (y ∷ ys) zs) → (rest : List ℕ) → placed y xs ≡ z ∷ rest → IsShuffle rest ys zs → IsShuffle xs (y ∷ ys) (z ∷ zs)
moved_left zs [] ys y z again rest e s = let both = head_is y z [] rest e in inr (ys, ap (λ (k : ℕ). k ∷ ys) both.0, subst (λ (l : List ℕ). IsShuffle l ys zs) (sym both.1) s)
moved_left zs (x ∷ xs) ys y z again rest e s = cases y x xs (λ l. l ≡ z ∷ rest → IsShuffle (x ∷ xs) (y ∷ ys) (z ∷ zs))
    (λ _ f. let both = head_is y z (x ∷ xs) rest f in inr (ys, ap (λ (k : ℕ). k ∷ ys) both.0, subst (λ (l : List ℕ). IsShuffle l ys zs) (sym both.1) s))
    (λ _ f. let both = head_is x z (placed y xs) rest f in inl (xs, ap (λ (k : ℕ). k ∷ xs) both.0, again xs (subst (λ (l : List ℕ). IsShuffle l ys zs) (sym both.1) s))) e

-- a place that was put among the first list comes from the second, before all that are greater
moved : (zs xs ys : List ℕ) (y low high : ℕ) → PlacesRise low zs high → PlacesRise (suc y) ys high → IsShuffle (placed y xs) ys zs → IsShuffle xs (y ∷ ys) zs
moved [] xs ys y low high r t s = absurd (subst (IsAmongPlaces y) s.0 (placed_there y xs))
moved (z ∷ zs) xs ys y low high r t s = ⊎_elim
    (λ (l : (rest : List ℕ) × (placed y xs ≡ z ∷ rest) × IsShuffle rest ys zs). moved_left zs xs ys y z (λ us v. moved zs us ys y (suc z) high r.1 t v) l.0 l.1 l.2)
    (λ (k : (rest : List ℕ) × (ys ≡ z ∷ rest) × IsShuffle (placed y xs) rest zs).
    let later = subst (λ (l : List ℕ). PlacesRise (suc y) l high) k.1 t in let up = later.0 in
    let back = above zs (suc z) high y r.1 (shuffle_has zs (placed y xs) k.0 y k.2 (placed_there y xs)) in absurd (omega (arith, up, back))) s

pub merged_shuffles : (ys xs : List ℕ) (low high : ℕ) → PlacesRise 0 xs high → PlacesRise low ys high → ((q : ℕ) → IsAmongPlaces q xs → IsAmongPlaces q ys → ⊥) → IsShuffle xs ys (merged xs ys)
merged_shuffles [] xs low high r t miss = shuffle_self xs
merged_shuffles (y ∷ ys) xs low high r t miss = let b = below ys (suc y) high t.1 in
    let longer = rises_placed y xs 0 high r (omega arith) (omega (arith, b)) (λ s. miss y s (inl refl)) in
    let apart : (q : ℕ) → IsAmongPlaces q (placed y xs) → IsAmongPlaces q ys → ⊥ = λ q s u. ⊎_elim (λ (e : q ≡ y). let a = above ys (suc y) high q t.1 u in absurd (omega (arith, a, e))) (λ (v : IsAmongPlaces q xs). miss q v (inr u)) (stands_placed y q xs s) in
    moved (merged (placed y xs) ys) xs ys y 0 high (rises_merged ys (placed y xs) (suc y) high longer t.1 apart) t.1 (merged_shuffles ys (placed y xs) (suc y) high longer t.1 apart)

pub map_shuffles : {A B : Type 0} (f : A → B) (zs xs ys : List A) → IsShuffle xs ys zs → IsShuffle (map f xs) (map f ys) (map f zs)
map_shuffles f [] xs ys s = (ap (map f) s.0, ap (map f) s.1)
map_shuffles {A = A} f (z ∷ zs) xs ys s = ⊎_elim
    (λ (l : (rest : List A) × (xs ≡ z ∷ rest) × IsShuffle rest ys zs). inl (map f l.0, ap (map f) l.1, map_shuffles f zs l.0 ys l.2))
    (λ (r : (rest : List A) × (ys ≡ z ∷ rest) × IsShuffle xs rest zs). inr (map f r.0, ap (map f) r.1, map_shuffles f zs xs r.0 r.2)) s
