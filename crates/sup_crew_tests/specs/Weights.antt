-- What threads find in the weights that they share.
use Rattle.std.specs.Prelude.{◌≡◌, ℕ, List, Option}
use Rattle.std.specs.List.{AllZip, slice_get}

-- what was found is the weight at each place, in order
abbrev pub AreWeightsAt : List ℕ → List ℕ → List (Option ℕ) → Type 0
AreWeightsAt weights places found = AllZip (λ place weight. weight ≡ slice_get weights place) places found
