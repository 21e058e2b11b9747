-- A list that stands in another: in its order, at places of its own.
use Rattle.std.specs.Prelude.{◌≡◌, ◌⊎◌, List, [], ◌∷◌}

abbrev pub Sublist : {X : Type 0} → List X → List X → Type 0
Sublist [] ys = Unit {0}
Sublist (x ∷ xs) [] = ⊥
Sublist (x ∷ xs) (y ∷ ys) = ((x ≡ y) × Sublist xs ys) ⊎ Sublist (x ∷ xs) ys
