-- A list in order, of which some items go and to which some come (this project).
use Rattle.std.specs.Prelude.{List, [], ◌∷◌, ◌++◌, cond, drop}
use Rattle.std.specs.Ordering.{is_lt}
use Rattle.std.specs.declared.cmp.Ordering.{Ordering}
use Rattle.sup_edits.specs.declared.edit.Edit.{Edit}
use Rattle.sup_edits.specs.declared.edit.Edit.TheVariants.{Comes, Goes}

-- what stands before a place
abbrev pub before : {X : Type 0} → (X → X → Ordering) → X → List X → List X
before cmp q [] = []
before cmp q (x ∷ xs) = cond (is_lt (cmp x q)) (x ∷ before cmp q xs) []

-- what stands there and behind it
abbrev pub after : {X : Type 0} → (X → X → Ordering) → X → List X → List X
after cmp q [] = []
after cmp q (x ∷ xs) = cond (is_lt (cmp x q)) (after cmp q xs) (x ∷ xs)

-- one item comes to its place, or the first that isn't before its place goes, whatever it is; the next edit concerns
-- what stands behind
abbrev pub edited : {X : Type 0} → (X → X → Ordering) → List (Edit X) → List X → List X
edited cmp [] xs = xs
edited cmp (Comes q ∷ es) xs = before cmp q xs ++ q ∷ edited cmp es (after cmp q xs)
edited cmp (Goes q ∷ es) xs = before cmp q xs ++ edited cmp es (drop 1 (after cmp q xs))

-- the item of an edit is seen as another
abbrev pub edit_of : {X Y : Type 0} → (X → Y) → Edit X → Edit Y
edit_of f (Comes q) = Comes (f q)
edit_of f (Goes q) = Goes (f q)

-- an item that comes has a property
abbrev pub IsComing : {X : Type 0} → (X → Type 0) → Edit X → Type 0
IsComing P (Comes q) = P q
IsComing P (Goes q) = Unit {0}
