-- What placement promises of any weigher: the place is unique, and few children move when members come and go
-- (Thaler and Ravishankar 1998, minimal disruption).
use Rattle.std.specs.Prelude.{◌≡◌, ◌≢◌, ◌↔◌, [], ◌∷◌, not, List, Some, None, filter, Contains, bytes_eq}
use Rattle.sup_specs.specs.Values.{Bytes}
use Rattle.sup_placement.specs.Place.{Weigher, IsPlace, place}

-- `place` answers the one place that there is
abbrev pub AnswersThePlace : Type 0
AnswersThePlace = (weight : Weigher) (members : List Bytes) (id m : Bytes) → place weight members id ≡ Some m ↔ IsPlace weight members id m

-- a child has a place wherever there are members
abbrev pub NowhereWithoutMembers : Type 0
NowhereWithoutMembers = (weight : Weigher) (members : List Bytes) (id : Bytes) → place weight members id ≡ None ↔ members ≡ []

-- two places of a child are one
abbrev pub OnePlace : Type 0
OnePlace = (weight : Weigher) (members : List Bytes) (id a b : Bytes) → IsPlace weight members id a → IsPlace weight members id b → a ≡ b

-- the same members, in whatever order and number
abbrev pub SameMembers : List Bytes → List Bytes → Type 0
SameMembers members others = (m : Bytes) → Contains members m ↔ Contains others m

abbrev pub OrderAndRepeatsAreFree : Type 0
OrderAndRepeatsAreFree = (weight : Weigher) (members others : List Bytes) (id : Bytes) → SameMembers members others → place weight members id ≡ place weight others id

-- the members without one of them
abbrev pub without : Bytes → List Bytes → List Bytes
without gone members = filter (λ m. not (bytes_eq m gone)) members

-- where one member is taken away, a child of another member stays
abbrev pub OnlyItsOwnMove : Type 0
OnlyItsOwnMove = (weight : Weigher) (members : List Bytes) (gone id : Bytes) → place weight members id ≢ Some gone → place weight (without gone members) id ≡ place weight members id

-- where one member is added, a child that it doesn't get stays
abbrev pub MovesOnlyToIt : Type 0
MovesOnlyToIt = (weight : Weigher) (members : List Bytes) (new id : Bytes) → place weight (new ∷ members) id ≢ Some new → place weight (new ∷ members) id ≡ place weight members id
