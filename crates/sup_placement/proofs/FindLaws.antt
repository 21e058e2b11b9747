-- What `find` answers: an element that passes, wherever there is one.
use Rattle.std.proofs.Common.{◌≡◌, Bool, true, false, not, cond, List, [], ◌∷◌, Some, refl, ap, sym, subst, true≢false, ◌∙◌, arith, inl, inr, ◌⊎◌}
use Rattle.std.specs.Prelude.{find, filter, Contains, All, slice_index_or}
use Rattle.std.specs.List.{list_any}
use Rattle.std.specs.Option.{unwrap_or}
use Rattle.std.proofs.lemmas.List.Elements.{Contains-push, Contains-push_cases, Contains-append_left, Contains-append_right, Contains-append_cases, All-contains, All-contains_itself, All-filter}
use Rattle.std.proofs.lemmas.List.Folds.{list_any_at}

module _ {X : Type 0} where
  pub Contains-head : (x : X) (xs : List X) → Contains (x ∷ xs) x
  Contains-head x xs = Contains-append_left (x ∷ []) xs x (Contains-push [] x)

  pub Contains-later : (x : X) (xs : List X) (y : X) → Contains xs y → Contains (x ∷ xs) y
  Contains-later x xs y h = Contains-append_right (x ∷ []) xs y h

  Contains-nil : (y : X) → Contains [] y → ⊥
  Contains-nil y h = omega (arith, h.1)

  pub Contains-cons_cases : (x : X) (xs : List X) (y : X) → Contains (x ∷ xs) y → (x ≡ y) ⊎ Contains xs y
  Contains-cons_cases x xs y h =
      elim (Contains-append_cases (x ∷ []) xs y h) as (λ _. (x ≡ y) ⊎ Contains xs y) [
        | inl here ↦ elim (Contains-push_cases [] x y here) as (λ _. (x ≡ y) ⊎ Contains xs y) [
          | inl none ↦ absurd (Contains-nil y none)
          | inr same ↦ inl same
        ]
        | inr later ↦ inr later
      ]

  module _ (test : X → Bool) where
    pub find_passes : (xs : List X) (m : X) → find test xs ≡ Some m → Contains xs m × (test m ≡ true)
    find_passes [] m e = cc
    find_passes (x ∷ xs) m e = at (test x) refl e (find_passes xs m)
      where
        at : (b : Bool) → test x ≡ b → cond b (Some x) (find test xs) ≡ Some m → (find test xs ≡ Some m → Contains xs m × (test m ≡ true)) → Contains (x ∷ xs) m × (test m ≡ true)
        at true t f rest = let same : x ≡ m = ap (λ o. unwrap_or o x) f in (subst (Contains (x ∷ xs)) same (Contains-head x xs), sym (ap test same) ∙ t)
        at false t f rest = let h = rest f in (Contains-later x xs m h.0, h.1)

    pub find_reaches : (xs : List X) (m : X) → Contains xs m → test m ≡ true → (y : X) × (find test xs ≡ Some y)
    find_reaches [] m h t = absurd (Contains-nil m h)
    find_reaches (x ∷ xs) m h t = at (test x) refl (Contains-cons_cases x xs m h) (λ later. find_reaches xs m later t)
      where
        at : (b : Bool) → test x ≡ b → (x ≡ m) ⊎ Contains xs m → (Contains xs m → (y : X) × (find test xs ≡ Some y)) → (y : X) × (cond b (Some x) (find test xs) ≡ Some y)
        at true e c rest = (x, refl)
        at false e (inl same) rest = absurd (true≢false (sym t ∙ ap test (sym same) ∙ e))
        at false e (inr later) rest = rest later

    -- where none passes, none does at any place
    pub none_passes : (xs : List X) → not (list_any test xs) ≡ true → All (λ x. test x ≡ false) xs
    none_passes xs h k d l = at (test (slice_index_or xs k d)) refl
      where
        at : (b : Bool) → test (slice_index_or xs k d) ≡ b → test (slice_index_or xs k d) ≡ false
        at true e = let any : list_any test xs ≡ true = list_any_at test xs k d l e in cc
        at false e = e

    pub Contains-filter : (xs : List X) (y : X) → Contains xs y → test y ≡ true → Contains (filter test xs) y
    Contains-filter [] y h t = absurd (Contains-nil y h)
    Contains-filter (x ∷ xs) y h t = at (test x) refl (Contains-cons_cases x xs y h) (λ later. Contains-filter xs y later t)
      where
        at : (b : Bool) → test x ≡ b → (x ≡ y) ⊎ Contains xs y → (Contains xs y → Contains (filter test xs) y) → Contains (cond b (x ∷ filter test xs) (filter test xs)) y
        at true e (inl same) rest = subst (Contains (x ∷ filter test xs)) same (Contains-head x (filter test xs))
        at true e (inr later) rest = Contains-later x (filter test xs) y (rest later)
        at false e (inl same) rest = absurd (true≢false (sym t ∙ ap test (sym same) ∙ e))
        at false e (inr later) rest = rest later

    pub Contains-filter_back : (xs : List X) (y : X) → Contains (filter test xs) y → Contains xs y
    Contains-filter_back xs y h = All-contains (Contains xs) (filter test xs) y (All-filter test (Contains xs) xs (All-contains_itself xs)) h
