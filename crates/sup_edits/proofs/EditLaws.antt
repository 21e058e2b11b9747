-- Edits of a list of which each item stays, comes or goes leave those that stay or come.
use Rattle.std.proofs.Common.{◌≡◌, true, false, List, [], ◌∷◌, ◌++◌, map, drop, cond, Ordering, Less, is_lt, refl, ap, ap₂, ◌∙◌}
use Rattle.std.specs.Cmp.{IsTotalOrder}
use Rattle.std.specs.List.{AllByRecursion}
use Rattle.std.specs.Ordering.{ordering_reverse}
use Rattle.std.proofs.lemmas.Cmp.{tied_itself}
use Rattle.sup_edits.specs.declared.edit.Edit.{Edit}
use Rattle.sup_edits.specs.declared.edit.Edit.TheVariants.{Comes, Goes}
use Rattle.sup_edits.specs.Edits.{before, after, edited, IsComing}
use Rattle.sup_edits.specs.Steps.{Step, stays, comes, goes, item_of, AreOrdered, edits_in, old_items, new_items}

module _ {X : Type 0} (cmp : X → X → Ordering) (total : IsTotalOrder cmp) where
  -- an item that stands before all steps' items is before what changes
  stays_first : (x : X) (ss : List (Step X)) (xs : List X) → AllByRecursion (λ y. cmp x y ≡ Less) (map item_of ss) → edited cmp (edits_in ss) (x ∷ xs) ≡ x ∷ edited cmp (edits_in ss) xs
  stays_first x [] xs all = refl
  stays_first x (stays q ∷ ss) xs all = stays_first x ss xs all.1
  stays_first x (comes q ∷ ss) xs all = let t : is_lt (cmp x q) ≡ true = ap is_lt all.0 in rw t refl
  stays_first x (goes q ∷ ss) xs all = let t : is_lt (cmp x q) ≡ true = ap is_lt all.0 in rw t refl

  -- no old item behind a step stands before it
  none_before : (q : X) (ss : List (Step X)) → AllByRecursion (λ x. cmp q x ≡ Less) (map item_of ss) → (before cmp q (old_items ss) ≡ []) × (after cmp q (old_items ss) ≡ old_items ss)
  none_before q [] all = (refl, refl)
  none_before q (stays x ∷ ss) all =
      let f : is_lt (cmp x q) ≡ false = ap is_lt (total.antisymm x q ∙ ap ordering_reverse all.0) in
      (rw f refl, rw f refl)
  none_before q (comes x ∷ ss) all = none_before q ss all.1
  none_before q (goes x ∷ ss) all =
      let f : is_lt (cmp x q) ≡ false = ap is_lt (total.antisymm x q ∙ ap ordering_reverse all.0) in
      (rw f refl, rw f refl)

  pub steps_edit : (ss : List (Step X)) → AreOrdered cmp ss → edited cmp (edits_in ss) (old_items ss) ≡ new_items ss
  steps_edit [] s = refl
  steps_edit (stays x ∷ ss) s = stays_first x ss (old_items ss) s.0 ∙ ap (λ xs. x ∷ xs) (steps_edit ss s.1)
  steps_edit (comes q ∷ ss) s =
      let none = none_before q ss s.0 in
      ap₂ (λ b a. b ++ q ∷ edited cmp (edits_in ss) a) none.0 none.1 ∙ ap (λ xs. q ∷ xs) (steps_edit ss s.1)
  steps_edit (goes q ∷ ss) s =
      let f : is_lt (cmp q q) ≡ false = ap is_lt (tied_itself total q) in
      rw f (steps_edit ss s)

-- what holds of all items, and of those that come, holds of all that stand then
all_before : {X : Type 0} (cmp : X → X → Ordering) (P : X → Type 0) (q : X) (xs : List X) → AllByRecursion P xs → AllByRecursion P (before cmp q xs)
all_before cmp P q [] all = tt
all_before cmp P q (x ∷ xs) all = elim (is_lt (cmp x q)) as (λ b. AllByRecursion P (cond b (x ∷ before cmp q xs) [])) [ true ↦ (all.0, all_before cmp P q xs all.1) | false ↦ tt ]

all_after : {X : Type 0} (cmp : X → X → Ordering) (P : X → Type 0) (q : X) (xs : List X) → AllByRecursion P xs → AllByRecursion P (after cmp q xs)
all_after cmp P q [] all = tt
all_after cmp P q (x ∷ xs) all = elim (is_lt (cmp x q)) as (λ b. AllByRecursion P (cond b (after cmp q xs) (x ∷ xs))) [ true ↦ all_after cmp P q xs all.1 | false ↦ all ]

all_rest : {X : Type 0} (P : X → Type 0) (xs : List X) → AllByRecursion P xs → AllByRecursion P (drop 1 xs)
all_rest P [] all = tt
all_rest P (x ∷ xs) all = all.1

all_joined : {X : Type 0} (P : X → Type 0) (xs ys : List X) → AllByRecursion P xs → AllByRecursion P ys → AllByRecursion P (xs ++ ys)
all_joined P [] ys all rest = rest
all_joined P (x ∷ xs) ys all rest = (all.0, all_joined P xs ys all.1 rest)

pub all_edited : {X : Type 0} (cmp : X → X → Ordering) (P : X → Type 0) (es : List (Edit X)) (xs : List X) → AllByRecursion P xs → AllByRecursion (IsComing P) es → AllByRecursion P (edited cmp es xs)
all_edited cmp P [] xs all come = all
all_edited cmp P (Comes q ∷ es) xs all come =
    all_joined P (before cmp q xs) (q ∷ edited cmp es (after cmp q xs)) (all_before cmp P q xs all) (come.0, all_edited cmp P es (after cmp q xs) (all_after cmp P q xs all) come.1)
all_edited cmp P (Goes q ∷ es) xs all come =
    all_joined P (before cmp q xs) (edited cmp es (drop 1 (after cmp q xs))) (all_before cmp P q xs all) (all_edited cmp P es (drop 1 (after cmp q xs)) (all_rest P (after cmp q xs) (all_after cmp P q xs all)) come.1)
