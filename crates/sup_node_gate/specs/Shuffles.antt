-- Shuffles of lists.
use Rattle.std.specs.Prelude.{◌≡◌, ◌⊎◌, List, [], ◌∷◌}

-- the last list takes from the front of the one or of the other, until both are used up
abbrev pub IsShuffle : {A : Type 0} → List A → List A → List A → Type 0
IsShuffle xs ys [] = (xs ≡ []) × (ys ≡ [])
IsShuffle {A} xs ys (z ∷ zs) = ((rest : List A) × (xs ≡ z ∷ rest) × IsShuffle rest ys zs) ⊎ ((rest : List A) × (ys ≡ z ∷ rest) × IsShuffle xs rest zs)

-- the last list is a shuffle of the first and of all these
abbrev pub IsShuffleOf : {A : Type 0} → List A → List (List A) → List A → Type 0
IsShuffleOf first [] all = first ≡ all
IsShuffleOf {A} first (ys ∷ others) all = (both : List A) × IsShuffle first ys both × IsShuffleOf both others all
