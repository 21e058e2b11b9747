-- A change of a list in order, item by item: each stays, comes or goes (this project).
use Rattle.std.specs.Prelude.{◌≡◌, List, [], ◌∷◌, map}
use Rattle.std.specs.List.{AllByRecursion}
use Rattle.std.specs.declared.cmp.Ordering.{Ordering}
use Rattle.std.specs.declared.cmp.Ordering.TheVariants.{Less}
use Rattle.sup_edits.specs.declared.edit.Edit.{Edit}
use Rattle.sup_edits.specs.declared.edit.Edit.TheVariants.{Comes, Goes}

pub data Step (X : Type 0) : Type 0 where
  stays : X → Step X
  comes : X → Step X
  goes : X → Step X

abbrev pub item_of : {X : Type 0} → Step X → X
item_of (stays x) = x
item_of (comes x) = x
item_of (goes x) = x

-- each item that stays or comes is before those of all later steps; one that goes may give its place to one that comes
abbrev pub AreOrdered : {X : Type 0} → (X → X → Ordering) → List (Step X) → Type 0
AreOrdered cmp [] = Unit {0}
AreOrdered cmp (stays x ∷ ss) = AllByRecursion (λ y. cmp x y ≡ Less) (map item_of ss) × AreOrdered cmp ss
AreOrdered cmp (comes x ∷ ss) = AllByRecursion (λ y. cmp x y ≡ Less) (map item_of ss) × AreOrdered cmp ss
AreOrdered cmp (goes x ∷ ss) = AreOrdered cmp ss

abbrev pub edits_in : {X : Type 0} → List (Step X) → List (Edit X)
edits_in [] = []
edits_in (stays x ∷ ss) = edits_in ss
edits_in (comes x ∷ ss) = Comes x ∷ edits_in ss
edits_in (goes x ∷ ss) = Goes x ∷ edits_in ss

-- the list before the change
abbrev pub old_items : {X : Type 0} → List (Step X) → List X
old_items [] = []
old_items (stays x ∷ ss) = x ∷ old_items ss
old_items (comes x ∷ ss) = old_items ss
old_items (goes x ∷ ss) = x ∷ old_items ss

-- the list after it
abbrev pub new_items : {X : Type 0} → List (Step X) → List X
new_items [] = []
new_items (stays x ∷ ss) = x ∷ new_items ss
new_items (comes x ∷ ss) = x ∷ new_items ss
new_items (goes x ∷ ss) = new_items ss
