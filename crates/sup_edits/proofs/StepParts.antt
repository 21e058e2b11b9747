-- Steps behind steps, and lists of which all stay, all come or all go.
use Rattle.std.proofs.Common.{◌≡◌, List, [], ◌∷◌, ◌++◌, map, Ordering, Less, refl, ap, sym, subst}
use Rattle.std.specs.List.{AllByRecursion}
use Rattle.std.specs.List.Sorted.{IsStrictlySortedBy}
use Rattle.sup_edits.specs.declared.edit.Edit.TheVariants.{Comes, Goes}
use Rattle.sup_edits.specs.Steps.{Step, stays, comes, goes, item_of, AreOrdered, edits_in, old_items, new_items}

-- ---- steps behind steps

pub edits-append : {X : Type 0} (ss ts : List (Step X)) → edits_in (ss ++ ts) ≡ edits_in ss ++ edits_in ts
edits-append [] ts = refl
edits-append (stays x ∷ ss) ts = edits-append ss ts
edits-append (comes x ∷ ss) ts = ap (λ es. Comes x ∷ es) (edits-append ss ts)
edits-append (goes x ∷ ss) ts = ap (λ es. Goes x ∷ es) (edits-append ss ts)

pub old-append : {X : Type 0} (ss ts : List (Step X)) → old_items (ss ++ ts) ≡ old_items ss ++ old_items ts
old-append [] ts = refl
old-append (stays x ∷ ss) ts = ap (λ xs. x ∷ xs) (old-append ss ts)
old-append (comes x ∷ ss) ts = old-append ss ts
old-append (goes x ∷ ss) ts = ap (λ xs. x ∷ xs) (old-append ss ts)

pub new-append : {X : Type 0} (ss ts : List (Step X)) → new_items (ss ++ ts) ≡ new_items ss ++ new_items ts
new-append [] ts = refl
new-append (stays x ∷ ss) ts = ap (λ xs. x ∷ xs) (new-append ss ts)
new-append (comes x ∷ ss) ts = ap (λ xs. x ∷ xs) (new-append ss ts)
new-append (goes x ∷ ss) ts = new-append ss ts

pub all_both : {X : Type 0} (P : X → Type 0) (ss ts : List (Step X)) → AllByRecursion P (map item_of ss) → AllByRecursion P (map item_of ts) → AllByRecursion P (map item_of (ss ++ ts))
all_both P [] ts all rest = rest
all_both P (s ∷ ss) ts all rest = (all.0, all_both P ss ts all.1 rest)

-- each item of the first steps is before each of the others
abbrev pub AreBefore : {X : Type 0} → (X → X → Ordering) → List X → List X → Type 0
AreBefore cmp xs ys = AllByRecursion (λ x. AllByRecursion (λ y. cmp x y ≡ Less) ys) xs

pub ordered-append : {X : Type 0} (cmp : X → X → Ordering) (ss ts : List (Step X)) → AreOrdered cmp ss → AreOrdered cmp ts → AreBefore cmp (map item_of ss) (map item_of ts) → AreOrdered cmp (ss ++ ts)
ordered-append cmp [] ts s t less = t
ordered-append cmp (stays x ∷ ss) ts s t less = (all_both (λ y. cmp x y ≡ Less) ss ts s.0 less.0, ordered-append cmp ss ts s.1 t less.1)
ordered-append cmp (comes x ∷ ss) ts s t less = (all_both (λ y. cmp x y ≡ Less) ss ts s.0 less.0, ordered-append cmp ss ts s.1 t less.1)
ordered-append cmp (goes x ∷ ss) ts s t less = ordered-append cmp ss ts s t less.1

-- ---- all stay, all come, all go

pub old-stays : {X : Type 0} (xs : List X) → old_items (map stays xs) ≡ xs
old-stays [] = refl
old-stays (x ∷ xs) = ap (λ ys. x ∷ ys) (old-stays xs)

pub new-stays : {X : Type 0} (xs : List X) → new_items (map stays xs) ≡ xs
new-stays [] = refl
new-stays (x ∷ xs) = ap (λ ys. x ∷ ys) (new-stays xs)

pub edits-stays : {X : Type 0} (xs : List X) → edits_in (map stays xs) ≡ []
edits-stays [] = refl
edits-stays (x ∷ xs) = edits-stays xs

pub old-comes : {X : Type 0} (xs : List X) → old_items (map comes xs) ≡ []
old-comes [] = refl
old-comes (x ∷ xs) = old-comes xs

pub new-comes : {X : Type 0} (xs : List X) → new_items (map comes xs) ≡ xs
new-comes [] = refl
new-comes (x ∷ xs) = ap (λ ys. x ∷ ys) (new-comes xs)

pub edits-comes : {X : Type 0} (xs : List X) → edits_in (map comes xs) ≡ map Comes xs
edits-comes [] = refl
edits-comes (x ∷ xs) = ap (λ es. Comes x ∷ es) (edits-comes xs)

pub old-goes : {X : Type 0} (xs : List X) → old_items (map goes xs) ≡ xs
old-goes [] = refl
old-goes (x ∷ xs) = ap (λ ys. x ∷ ys) (old-goes xs)

pub new-goes : {X : Type 0} (xs : List X) → new_items (map goes xs) ≡ []
new-goes [] = refl
new-goes (x ∷ xs) = new-goes xs

pub edits-goes : {X : Type 0} (xs : List X) → edits_in (map goes xs) ≡ map Goes xs
edits-goes [] = refl
edits-goes (x ∷ xs) = ap (λ es. Goes x ∷ es) (edits-goes xs)

pub items-stays : {X : Type 0} (xs : List X) → map item_of (map stays xs) ≡ xs
items-stays [] = refl
items-stays (x ∷ xs) = ap (λ ys. x ∷ ys) (items-stays xs)

pub items-comes : {X : Type 0} (xs : List X) → map item_of (map comes xs) ≡ xs
items-comes [] = refl
items-comes (x ∷ xs) = ap (λ ys. x ∷ ys) (items-comes xs)

pub items-goes : {X : Type 0} (xs : List X) → map item_of (map goes xs) ≡ xs
items-goes [] = refl
items-goes (x ∷ xs) = ap (λ ys. x ∷ ys) (items-goes xs)

pub ordered-stays : {X : Type 0} (cmp : X → X → Ordering) (xs : List X) → IsStrictlySortedBy cmp xs → AreOrdered cmp (map stays xs)
unfolding IsStrictlySortedBy
ordered-stays cmp [] s = tt
ordered-stays cmp (x ∷ xs) s = (subst (λ ys. AllByRecursion (λ y. cmp x y ≡ Less) ys) (sym (items-stays xs)) s.0, ordered-stays cmp xs s.1)

pub ordered-comes : {X : Type 0} (cmp : X → X → Ordering) (xs : List X) → IsStrictlySortedBy cmp xs → AreOrdered cmp (map comes xs)
unfolding IsStrictlySortedBy
ordered-comes cmp [] s = tt
ordered-comes cmp (x ∷ xs) s = (subst (λ ys. AllByRecursion (λ y. cmp x y ≡ Less) ys) (sym (items-comes xs)) s.0, ordered-comes cmp xs s.1)

pub ordered_behind_goes : {X : Type 0} (cmp : X → X → Ordering) (xs : List X) (ts : List (Step X)) → AreOrdered cmp ts → AreOrdered cmp (map goes xs ++ ts)
ordered_behind_goes cmp [] ts t = t
ordered_behind_goes cmp (x ∷ xs) ts t = ordered_behind_goes cmp xs ts t
