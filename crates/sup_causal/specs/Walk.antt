-- A walk over two maps: their entries in rising order of the keys, each key of either once (this project).
use Rattle.std.specs.Prelude.{◌≡◌, ◌||◌, true, List, ◌∷◌, drop, Option, Some, None, MatchOption}
use Rattle.std.proofs.Common.{Bor}
use Rattle.std.specs.declared.cmp.Ordering.{Ordering}
use Rattle.std.specs.declared.cmp.Ordering.TheVariants.{Less}
use Rattle.std.specs.List.{AllByRecursion}
use Rattle.std.specs.List.Sorted.{IsStrictlySortedBy}
use Rattle.std.specs.Map.{keys_of}
use Rattle.std.specs.Option.{is_some, option_copied}

-- what is at the key k, if something is, and these entries behind it
abbrev pub at_first : {K V : Type 0} → K → Option V → List (K × V) → List (K × V)
at_first k None es = es
at_first k (Some v) es = (k, v) ∷ es

-- the keys of the entries rise
abbrev pub KeysRise : {K V : Type 0} → (K → K → Ordering) → List (K × V) → Type 0
KeysRise cmp es = IsStrictlySortedBy cmp (keys_of es)

-- k is below each key of the entries
abbrev pub IsBelowKeys : {K V : Type 0} → (K → K → Ordering) → K → List (K × V) → Type 0
IsBelowKeys cmp k es = AllByRecursion (λ q. cmp k q ≡ Less) (keys_of es)

-- k is the least key of two lists of entries, which have left and right there, and go on with lefts and rights
pub record IsLeastKey {K V : Type 0} (cmp : K → K → Ordering) (k : K) (left right : Option V) (all_left all_right lefts rights : List (K × V)) : Type 0 where
  pub left_first : all_left ≡ at_first k left lefts
  pub right_first : all_right ≡ at_first k right rights
  pub below_left : IsBelowKeys cmp k lefts
  pub below_right : IsBelowKeys cmp k rights
  pub held : (is_some left || is_some right) ≡ true

-- how the first entry of a list stands to a key: it is the key's, with the value that is told there, or,
-- where none is told, above the key or not there
abbrev pub StandsTo : {K V : Type 0} → (K → K → Ordering) → K → Option V → Option (K × V) → Type 0
StandsTo cmp k (Some v) first = first ≡ Some (k, v)
StandsTo cmp k None None = Unit {0}
StandsTo cmp k None (Some e) = cmp k e.0 ≡ Less

-- k is the lesser key of two first entries, which have left and right there
pub record IsLesserKey {K V : Type 0} (cmp : K → K → Ordering) (k : K) (left right : Option V) (first_left first_right : Option (K × V)) : Type 0 where
  pub left_stands : StandsTo cmp k left first_left
  pub right_stands : StandsTo cmp k right first_right
  pub held : (is_some left || is_some right) ≡ true

-- the lesser key of two first entries is given, with what stands there, and nothing where there is no entry
abbrev pub GivesLesserKey : {K V : Type 0} → (K → K → Ordering) → Option (K × V) → Option (K × V) → Option (Bor K × Option (Bor V) × Option (Bor V)) → Type 0
GivesLesserKey cmp first_left first_right given = MatchOption given ((first_left ≡ None) × (first_right ≡ None)) (λ x. IsLesserKey cmp x.0.now (option_copied x.1) (option_copied x.2) first_left first_right)

-- the entries that are left past the first, where its value is told
abbrev pub past_told : {K V : Type 0} → Option V → List (K × V) → List (K × V)
past_told None es = es
past_told (Some v) es = drop 1 es
