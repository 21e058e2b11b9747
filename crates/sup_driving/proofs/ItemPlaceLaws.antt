-- What stands at a place.
use Rattle.std.specs.Prelude.{◌≡◌, ℕ, List, [], ◌∷◌, ◌++◌, Some, slice_get, get_or, All}
use Rattle.std.specs.List.{AllByRecursion}
use Rattle.std.proofs.Common.{sym, ap, ◌∙◌, arith}
use Rattle.std.proofs.lemmas.Option.{get_or_from_slice_get}

pub is_at : {X : Type 0} (xs : List X) (i : ℕ) (x y : X) → slice_get xs i ≡ Some x → y ≡ get_or xs i y → x ≡ y
is_at xs i x y e is = sym (is ∙ get_or_from_slice_get xs i x y e)

pub stands_at : {X : Type 0} (xs : List X) (i : ℕ) (x y : X) → slice_get xs i ≡ Some x → y ≡ get_or xs i y → slice_get xs i ≡ Some y
stands_at xs i x y e is = e ∙ ap Some (is_at xs i x y e is)

module _ {X : Type 0} where
  pub first_of : (P : X → Type 0) (x : X) (xs : List X) → All P (x ∷ xs) → P x
  first_of P x xs h = h 0 x (omega arith)

  pub each_more : (P : X → Type 0) (xs : List X) (x : X) → AllByRecursion P xs → P x → AllByRecursion P (xs ++ x ∷ [])
  each_more P [] x h p = (p, tt)
  each_more P (y ∷ ys) x h p = (h.0, each_more P ys x h.1 p)
