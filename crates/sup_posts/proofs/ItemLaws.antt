-- What all items have, one behind them, and what is left where none is.
use Rattle.std.specs.Prelude.{◌≡◌, ◌⊎◌, ℕ, zero, suc, List, [], ◌∷◌, ◌++◌, length, Some, slice_get, slice_index_or, All, Contains, refl}
use Rattle.std.specs.List.{AllZip}
use Rattle.std.proofs.Common.{sym, ap, ◌∙◌, arith, append-nil, inl, inr, ⊎_elim}
use Rattle.std.proofs.lemmas.List.{nil_from_length}
use Rattle.std.proofs.lemmas.List.Elements.{All-append, Contains-append_right}
use Rattle.std.proofs.lemmas.Option.{none-some, same_Some}

module _ {X : Type 0} where
  pub all_none : (P : X → Type 0) → All P []
  all_none P k d lt = absurd (omega (arith, lt))

  pub all_snoc : (P : X → Type 0) (xs : List X) (x : X) → All P xs → P x → All P (xs ++ x ∷ [])
  all_snoc P xs x h p = All-append P xs (x ∷ []) h one
    where
      one : All P (x ∷ [])
      one zero d lt = p
      one (suc k) d lt = absurd (omega (arith, lt))

  pub none_left : (xs ys all : List X) → length ys ≡ 0 → xs ++ ys ≡ all → xs ≡ all
  none_left xs ys all none e = sym (append-nil xs) ∙ (ap (λ l. xs ++ l) (sym (nil_from_length ys none)) ∙ e)

  pub all_weaken : (P Q : X → Type 0) → ((x : X) → P x → Q x) → (xs : List X) → All P xs → All Q xs
  all_weaken P Q f xs h k d lt = f (slice_index_or xs k d) (h k d lt)

  -- what stands at a place of a list with one item more stood there, or is that item
  pub get_snoc : (xs : List X) (x y : X) (j : ℕ) → slice_get (xs ++ x ∷ []) j ≡ Some y → (slice_get xs j ≡ Some y) ⊎ ((j ≡ length xs) × (x ≡ y))
  get_snoc [] x y zero e = inr (refl, same_Some x y e)
  get_snoc [] x y (suc j) e = absurd (none-some y e)
  get_snoc (z ∷ zs) x y zero e = inl e
  get_snoc (z ∷ zs) x y (suc j) e = ⊎_elim (λ (l : slice_get zs j ≡ Some y). inl l) (λ (r : (j ≡ length zs) × (x ≡ y)). inr (ap suc r.0, r.1)) (get_snoc zs x y j e)

  pub last_contained : (xs : List X) (x : X) → Contains (xs ++ x ∷ []) x
  last_contained xs x = Contains-append_right xs (x ∷ []) x (0, omega arith, refl)

pub zip_append : {A B : Type 0} (R : A → B → Type 0) (xs : List A) (ys : List B) (zs : List A) (ws : List B) → AllZip R xs ys → AllZip R zs ws → AllZip R (xs ++ zs) (ys ++ ws)
zip_append R [] [] zs ws p q = q
zip_append R [] (y ∷ ys) zs ws p q = absurd p
zip_append R (x ∷ xs) [] zs ws p q = absurd p
zip_append R (x ∷ xs) (y ∷ ys) zs ws p q = (p.0, zip_append R xs ys zs ws p.1 q)
