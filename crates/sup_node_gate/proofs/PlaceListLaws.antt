-- Lists of places that rise, put together.
use Rattle.std.proofs.Common.{◌≡◌, ℕ, suc, ◌<◌, ◌≤◌, ◌≢◌, ◌⊎◌, Bool, true, false, List, [], ◌∷◌, sym, refl, subst, inl, inr, ⊎_elim, arith, nat_lt, if◌then◌else◌}
use borrow.Author.Tests.{ltb-true, ltb-false}
use Rattle.sup_node_gate.specs.Views.{IsAmongPlaces, PlacesRise, placed, merged}

either_way : (b : Bool) (p x : ℕ) (xs ys : List ℕ) (Q : List ℕ → Type 0) → nat_lt p x ≡ b → (p < x → Q xs) → (x ≤ p → Q ys) → Q (if b then xs else ys)
either_way true p x xs ys Q e hit miss = hit (ltb-true p x e)
either_way false p x xs ys Q e hit miss = miss (ltb-false p x e)

pub cases : (p x : ℕ) (xs : List ℕ) (Q : List ℕ → Type 0) → (p < x → Q (p ∷ x ∷ xs)) → (x ≤ p → Q (x ∷ placed p xs)) → Q (placed p (x ∷ xs))
cases p x xs Q hit miss = either_way (nat_lt p x) p x (p ∷ x ∷ xs) (x ∷ placed p xs) Q refl hit miss

pub stands_placed : (p q : ℕ) (xs : List ℕ) → IsAmongPlaces q (placed p xs) → (q ≡ p) ⊎ IsAmongPlaces q xs
stands_placed p q [] = λ s. s
stands_placed p q (x ∷ xs) = cases p x xs (λ l. IsAmongPlaces q l → (q ≡ p) ⊎ IsAmongPlaces q (x ∷ xs)) (λ _ s. s)
    (λ _ s. ⊎_elim (λ (e : q ≡ x). inr (inl e)) (λ (t : IsAmongPlaces q (placed p xs)). ⊎_elim (λ (e : q ≡ p). inl e) (λ (u : IsAmongPlaces q xs). inr (inr u)) (stands_placed p q xs t)) s)

pub rises_placed : (p : ℕ) (xs : List ℕ) (low high : ℕ) → PlacesRise low xs high → low ≤ p → p < high → (IsAmongPlaces p xs → ⊥) → PlacesRise low (placed p xs) high
rises_placed p [] low high r a b miss = (a, omega arith)
rises_placed p (x ∷ xs) low high r a b miss = cases p x xs (λ l. PlacesRise low l high) (λ less. (a, (omega arith, r.1)))
    (λ more. let apart : p ≢ x = λ e. miss (inl e) in (r.0, rises_placed p xs (suc x) high r.1 (omega arith) b (λ s. miss (inr s))))

pub above : (xs : List ℕ) (low high p : ℕ) → PlacesRise low xs high → IsAmongPlaces p xs → low ≤ p
above [] low high p r s = absurd s
above (x ∷ xs) low high p r s = let a = r.0 in ⊎_elim (λ (e : p ≡ x). omega arith) (λ (t : IsAmongPlaces p xs). let b = above xs (suc x) high p r.1 t in omega arith) s

pub below : (xs : List ℕ) (low high : ℕ) → PlacesRise low xs high → low ≤ high
below [] low high r = r
below (x ∷ xs) low high r = let a = r.0 in let b = below xs (suc x) high r.1 in omega arith

pub stands_merged : (ys xs : List ℕ) (q : ℕ) → IsAmongPlaces q (merged xs ys) → IsAmongPlaces q xs ⊎ IsAmongPlaces q ys
stands_merged [] xs q s = inl s
stands_merged (y ∷ ys) xs q s = ⊎_elim
    (λ (t : IsAmongPlaces q (placed y xs)). ⊎_elim (λ (e : q ≡ y). inr (inl e)) (λ (u : IsAmongPlaces q xs). inl u) (stands_placed y q xs t)) (λ (t : IsAmongPlaces q ys). inr (inr t)) (stands_merged ys (placed y xs) q s)

pub rises_merged : (ys xs : List ℕ) (low high : ℕ) → PlacesRise 0 xs high → PlacesRise low ys high → ((q : ℕ) → IsAmongPlaces q xs → IsAmongPlaces q ys → ⊥) → PlacesRise 0 (merged xs ys) high
rises_merged [] xs low high r t miss = r
rises_merged (y ∷ ys) xs low high r t miss = let b = below ys (suc y) high t.1 in rises_merged ys (placed y xs) (suc y) high (rises_placed y xs 0 high r (omega arith) (omega arith) (λ s. miss y s (inl refl))) t.1
    (λ q s u. ⊎_elim (λ (e : q ≡ y). let a = above ys (suc y) high q t.1 u in absurd (omega arith)) (λ (v : IsAmongPlaces q xs). miss q v (inr u)) (stands_placed y q xs s))

pub placed_there : (p : ℕ) (xs : List ℕ) → IsAmongPlaces p (placed p xs)
placed_there p [] = inl refl
placed_there p (x ∷ xs) = cases p x xs (λ l. IsAmongPlaces p l) (λ _. inl refl) (λ _. inr (placed_there p xs))

placed_keeps : (p q : ℕ) (xs : List ℕ) → IsAmongPlaces q xs → IsAmongPlaces q (placed p xs)
placed_keeps p q [] s = absurd s
placed_keeps p q (x ∷ xs) s = cases p x xs (λ l. IsAmongPlaces q l) (λ _. inr s) (λ _. ⊎_elim (λ (e : q ≡ x). inl e) (λ (t : IsAmongPlaces q xs). inr (placed_keeps p q xs t)) s)

pub merged_left : (ys xs : List ℕ) (q : ℕ) → IsAmongPlaces q xs → IsAmongPlaces q (merged xs ys)
merged_left [] xs q s = s
merged_left (y ∷ ys) xs q s = merged_left ys (placed y xs) q (placed_keeps y q xs s)

pub merged_right : (ys xs : List ℕ) (q : ℕ) → IsAmongPlaces q ys → IsAmongPlaces q (merged xs ys)
merged_right [] xs q s = absurd s
merged_right (y ∷ ys) xs q s = ⊎_elim (λ (e : q ≡ y). merged_left ys (placed y xs) q (subst (λ (z : ℕ). IsAmongPlaces z (placed y xs)) (sym e) (placed_there y xs))) (λ (t : IsAmongPlaces q ys). merged_right ys (placed y xs) q t) s

-- places that rise with one put among them rise without it, and it wasn't there
pub rises_unplaced : (y : ℕ) (xs : List ℕ) (low high : ℕ) → PlacesRise low (placed y xs) high → PlacesRise low xs high
rises_unplaced y [] low high r = let a = r.0 in let b = r.1 in omega (arith, a, b)
rises_unplaced y (x ∷ xs) low high r = cases y x xs (λ l. PlacesRise low l high → PlacesRise low (x ∷ xs) high)
    (λ less s. let a = s.0 in (omega (arith, a, less), s.1.1)) (λ more s. (s.0, rises_unplaced y xs (suc x) high s.1)) r

unplaced_apart : (y : ℕ) (xs : List ℕ) (low high : ℕ) → PlacesRise low (placed y xs) high → IsAmongPlaces y xs → ⊥
unplaced_apart y [] low high r t = t
unplaced_apart y (x ∷ xs) low high r t = cases y x xs (λ l. PlacesRise low l high → IsAmongPlaces y (x ∷ xs) → ⊥)
    (λ less s u. let up = above (x ∷ xs) (suc y) high y s.1 u in omega (arith, up))
    (λ more s u. ⊎_elim (λ (e : y ≡ x). let up = above (placed y xs) (suc x) high y s.1 (placed_there y xs) in omega (arith, up, e)) (λ (v : IsAmongPlaces y xs). unplaced_apart y xs (suc x) high s.1 v) u) r t

rises_unmerged : (ys xs : List ℕ) (low high : ℕ) → PlacesRise low (merged xs ys) high → PlacesRise low xs high
rises_unmerged [] xs low high r = r
rises_unmerged (y ∷ ys) xs low high r = rises_unplaced y xs low high (rises_unmerged ys (placed y xs) low high r)

-- no place is in both of two lists that rise once they are put together
pub merged_apart : (ys xs : List ℕ) (low high : ℕ) → PlacesRise low (merged xs ys) high → (q : ℕ) → IsAmongPlaces q xs → IsAmongPlaces q ys → ⊥
merged_apart [] xs low high r q s t = t
merged_apart (y ∷ ys) xs low high r q s t = ⊎_elim
    (λ (e : q ≡ y). unplaced_apart y xs low high (rises_unmerged ys (placed y xs) low high r) (subst (λ (z : ℕ). IsAmongPlaces z xs) e s))
    (λ (u : IsAmongPlaces q ys). merged_apart ys (placed y xs) low high r q (placed_keeps y q xs s) u) t
