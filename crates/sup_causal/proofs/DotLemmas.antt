-- Lemmas on dots and lists of them.
use Rattle.std.proofs.Common.{◌≡◌, ℕ, zero, suc, ◌-◌, ◌<◌, ◌≤◌, Bool, true, false, ◌||◌, List, [], ◌∷◌, length, get_or, Ordering, refl, sym, ap, ◌∙◌, arith}
use Rattle.std.specs.declared.cmp.Ordering.TheVariants.{Less, Equal, Greater}
use Rattle.std.specs.Cmp.Lexicographic.{slice_cmp}
use Rattle.std.specs.Ordering.{nat_cmp, ordering_then, is_eq}
use Rattle.std.specs.List.{AllByRecursion, insert}
use Rattle.std.proofs.lemmas.Cmp.{tied_itself, eq_by_cmp_equiv, by_ranked, ranked}
use Rattle.std.proofs.lemmas.Bool.{or_right, or_left, or_from}
use Rattle.std.proofs.lemmas.List.{get_or_default}
use Rattle.std.proofs.lemmas.List.Folds.{list_any_at}
use Rattle.std.proofs.lemmas.List.Elements.{recursion_from_All}
use Rattle.std.proofs.Common.{subst, Result, Ok, Err, inl, inr, is_ok}
use Rattle.std.specs.List.Sorted.{IsSearchInRange, IsBinarySearchResult, IsStrictlySortedBy}
use Rattle.std.proofs.lemmas.Bool.{cases_lt, cases_order}
use Rattle.sup_specs.specs.Rising.{among}
use Rattle.sup_causal.proofs.Rising.{searched, rising_at}
use Rattle.sup_causal.specs.DotLaws.{dot_total, dot_exact}
use Rattle.sup_causal.specs.Dots.{dot_cmp, dot_eq, IsCounted, IsGreatest}
use Rattle.sup_specs.specs.declared.limits.TheConstants.{MAX}
use Rattle.std.specs.Result.{OnErr}
use mathlib.Core.Bool.{false≢true}
use mathlib.Core.Path.{fun_ext}
use Rattle.sup_causal.specs.Join.{pointwise_join}
use Rattle.sup_causal.specs.declared.dot.Dot.{Dot}

-- what holds after a refusal, where it holds anyway
pub on_err : {A E P : Type 0} (r : Result A E) → P → OnErr r P
on_err (Ok x) p = tt
on_err (Err e) p = p

-- the test is the comparison
pub dot_ties : (a b : Dot) → dot_eq a b ≡ is_eq (dot_cmp a b)
dot_ties a b = refl

pub equal_from_is_eq : (o : Ordering) → is_eq o ≡ true → o ≡ Equal
equal_from_is_eq Less e = cc
equal_from_is_eq Equal e = refl
equal_from_is_eq Greater e = cc

pub or_assoc : (a b c : Bool) → ((a || b) || c) ≡ (a || (b || c))
or_assoc true b c = refl
or_assoc false b c = refl

or_swap : (a b c : Bool) → (a || (b || c)) ≡ (b || (a || c))
or_swap true true c = refl
or_swap true false c = refl
or_swap false b c = refl

-- a dot is equal to itself
pub dot_eq-refl : (d : Dot) → dot_eq d d ≡ true
dot_eq-refl d = dot_ties d d ∙ ap is_eq (tied_itself dot_total d)

pub dot_eq-true : (a b : Dot) → dot_eq a b ≡ true → a ≡ b
dot_eq-true a b e = dot_exact a b (equal_from_is_eq _ (sym (dot_ties a b) ∙ e))

pub dot_eq-turn : (a b : Dot) → dot_eq a b ≡ dot_eq b a
dot_eq-turn a b = (eq_by_cmp_equiv dot_total).symm a b

-- the first of a list is asked the other way round
pub among_first : (x : Dot) (xs : List Dot) (d : Dot) → among dot_cmp (x ∷ xs) d ≡ (dot_eq x d || among dot_cmp xs d)
among_first x xs d = ap (λ b. b || among dot_cmp xs d) (dot_eq-turn d x)

pub among-insert : (xs : List Dot) (i : ℕ) (y d : Dot) → among dot_cmp (insert xs i y) d ≡ (dot_eq y d || among dot_cmp xs d)
among-insert xs zero y d = among_first y xs d
among-insert [] (suc i) y d = among_first y [] d
among-insert (x ∷ xs) (suc i) y d = ap (λ b. dot_eq d x || b) (among-insert xs i y d) ∙ or_swap (dot_eq d x) (dot_eq y d) (among dot_cmp xs d)

-- what stands in the list is there
pub has_at : (xs : List Dot) (i : ℕ) (d : Dot) → i < length xs → dot_cmp (get_or xs i d) d ≡ Equal → among dot_cmp xs d ≡ true
has_at xs i d within equal = list_any_at (dot_eq d) xs i d within (dot_eq-turn d (get_or xs i d) ∙ ap is_eq equal)

-- what compares otherwise to each is not
pub has_none : (xs : List Dot) (d : Dot) → AllByRecursion (λ y. is_eq (dot_cmp y d) ≡ false) xs → among dot_cmp xs d ≡ false
has_none [] d all = refl
has_none (x ∷ xs) d all = or_from _ _ (dot_eq-turn d x ∙ all.0) (has_none xs d all.1)

-- what a search for a dot answers, by the test
pub search_has : (xs : List Dot) → IsStrictlySortedBy dot_cmp xs → (d : Dot) (r : Result ℕ ℕ) → IsSearchInRange r (length xs) → IsBinarySearchResult (λ y. dot_cmp y d) xs r → is_ok r ≡ among dot_cmp xs d
unfolding IsStrictlySortedBy
search_has xs s d (Ok i) within equal = sym (has_at xs i d within (equal d))
search_has xs s d (Err i) within parted =
    let gap = searched dot_total xs s d (Err i) within parted in
    sym (has_none xs d (recursion_from_All (λ y. is_eq (dot_cmp y d) ≡ false) xs (λ k e lt. elim (cases_lt k i) [
      | inl below ↦ ap is_eq (gap.1 k e below)
      | inr above ↦ ap is_eq (gap.2 k e above lt)
    ])))

-- a context with one dot more at its gap
again : (xs : List Dot) (y d : Dot) → among dot_cmp xs y ≡ true → (b : Bool) → dot_eq y d ≡ b → among dot_cmp xs d ≡ (b || among dot_cmp xs d)
again xs y d there true e = ap (among dot_cmp xs) (sym (dot_eq-true y d e)) ∙ there
again xs y d there false e = refl

-- one more of what is there changes nothing
pub has_again : (xs : List Dot) (y d : Dot) → among dot_cmp xs y ≡ true → among dot_cmp xs d ≡ (dot_eq y d || among dot_cmp xs d)
has_again xs y d there = again xs y d there (dot_eq y d) refl

-- what is in the list passes what each element passes
passes : (P : Dot → Type 0) (x d : Dot) (rest : Bool) → P x → (rest ≡ true → P d) → (b : Bool) → dot_eq d x ≡ b → (b || rest) ≡ true → P d
passes P x d rest here there true e h = subst P (sym (dot_eq-true d x e)) here
passes P x d rest here there false e h = there h

pub each_has : (P : Dot → Type 0) (xs : List Dot) → AllByRecursion P xs → (d : Dot) → among dot_cmp xs d ≡ true → P d
each_has P [] all d h = absurd (false≢true h)
each_has P (x ∷ xs) all d h = passes P x d (among dot_cmp xs d) all.0 (each_has P xs all.1 d) (dot_eq d x) refl h

pub each_from_has : (P : Dot → Type 0) (xs : List Dot) → ((d : Dot) → among dot_cmp xs d ≡ true → P d) → AllByRecursion P xs
each_from_has P [] h = tt
each_from_has P (x ∷ xs) h = (h x (or_left _ _ (dot_eq-refl x)), each_from_has P xs (λ d there. h d (or_right _ _ there)))

-- of counted dots the greatest is at most MAX
pub greatest_counted : (xs : List Dot) (node : List ℕ) (n : ℕ) → AllByRecursion IsCounted xs → IsGreatest (among dot_cmp xs) node n → n ≤ MAX
greatest_counted xs node zero all g = omega arith
greatest_counted xs node (suc n) all g = let counted = each_has IsCounted xs all _ (g.reached (omega arith)) in counted.1

-- no test answers both
pub both_ways : (b : Bool) → b ≡ true → b ≡ false → ⊥
both_ways b e f = cc

-- dots that a context has are counted
or_within : (a b : Bool) → (a ≡ true → b ≡ true) → (a || b) ≡ b
or_within true b h = sym (h refl)
or_within false b h = refl

pub within_or : (a b : Bool) → (a || b) ≡ b → a ≡ true → b ≡ true
within_or true b e h = sym e
within_or false b e h = absurd (false≢true h)

-- to be within is to add nothing
pub adds_nothing : (a b : Dot → Bool) → ((d : Dot) → a d ≡ true → b d ≡ true) → pointwise_join (λ x y. x || y) a b ≡ b
adds_nothing a b h = fun_ext (λ d. or_within (a d) (b d) (h d))

pub nothing_added : (a b : Dot → Bool) → pointwise_join (λ x y. x || y) a b ≡ b → (d : Dot) → a d ≡ true → b d ≡ true
nothing_added a b e d h = within_or (a d) (b d) (ap (λ f. f d) e) h

-- where a dot of the list stands
pub place_of : (xs : List Dot) (d : Dot) → among dot_cmp xs d ≡ true → (k : ℕ) × (k < length xs) × (get_or xs k d ≡ d)
place_of [] d h = absurd (false≢true h)
place_of (x ∷ xs) d h = at (dot_eq d x) refl h (place_of xs d)
  where
    at : (b : Bool) → dot_eq d x ≡ b → (b || among dot_cmp xs d) ≡ true → (among dot_cmp xs d ≡ true → (k : ℕ) × (k < length xs) × (get_or xs k d ≡ d)) → (k : ℕ) × (k < length (x ∷ xs)) × (get_or (x ∷ xs) k d ≡ d)
    at true e g further = (0, omega arith, sym (dot_eq-true d x e))
    at false e g further = let later : (k : ℕ) × (k < length xs) × (get_or xs k d ≡ d) = further g in (suc later.0, omega (arith, later.1), later.2)

-- a lesser dot has no greater counter
pub counter_from_less : (x y : Dot) → dot_cmp x y ≡ Less → x.counter ≤ y.counter
counter_from_less x y h = by_ranked (x.counter < y.counter) (x.counter ≡ y.counter) (y.counter < x.counter) (nat_cmp x.counter y.counter) (ranked x.counter y.counter _ refl)
    (λ e lt. omega (arith, lt)) (λ e same. omega (arith, same))
    (λ e above. let wrong : Greater ≡ Less = ap (λ o. ordering_then o (slice_cmp nat_cmp x.node y.node)) (sym e) ∙ h in cc)

-- the last dot of the node has its greatest counter
pub greatest_at : (xs : List Dot) → IsStrictlySortedBy dot_cmp xs → (i : ℕ) (node : List ℕ) → i < length xs → (d e : Dot) → (get_or xs i d).node ≡ node
    → ((k : ℕ) (d : Dot) → i < k → k < length xs → (get_or xs k d).node ≡ node → ⊥) → IsGreatest (among dot_cmp xs) node (get_or xs i e).counter
greatest_at xs rises i node within d e same none = record { bound = bound; reached = λ lt. has_at xs i (record { counter = (get_or xs i e).counter; node = node }) within (tied_from (get_or xs i (record { counter = (get_or xs i e).counter; node = node })) (record { counter = (get_or xs i e).counter; node = node }) (get_or_default xs i (record { counter = (get_or xs i e).counter; node = node }) e within ∙ dot_is)) }
  where
    there : (get_or xs i e).node ≡ node
    there = ap (λ (x : Dot). x.node) (get_or_default xs i e d within) ∙ same

    dot_is : get_or xs i e ≡ record { counter = (get_or xs i e).counter; node = node }
    dot_is k = record { counter = (get_or xs i e).counter; node = there k }

    tied_from : (x y : Dot) → x ≡ y → dot_cmp x y ≡ Equal
    tied_from x y is = ap (dot_cmp x) (sym is) ∙ tied_itself dot_total x

    counter_is : (q : Dot) → (get_or xs i q).counter ≡ (get_or xs i e).counter
    counter_is q = ap (λ (x : Dot). x.counter) (get_or_default xs i q e within)

    bound : (q : Dot) → q.node ≡ node → among dot_cmp xs q ≡ true → q.counter ≤ (get_or xs i e).counter
    bound q of has =
        let at : (k : ℕ) × (k < length xs) × (get_or xs k q ≡ q) = place_of xs q has in
        let count : (get_or xs at.0 q).counter ≡ q.counter = ap (λ (x : Dot). x.counter) at.2 in
        elim (cases_order at.0 i) [
          | inl same_place ↦
              let is : (get_or xs at.0 q).counter ≡ (get_or xs i q).counter = ap (λ k. (get_or xs k q).counter) same_place in
              omega (arith, is, count, counter_is q)
          | inr apart ↦ elim apart [
            | inl below ↦
                let le : (get_or xs at.0 q).counter ≤ (get_or xs i q).counter = counter_from_less (get_or xs at.0 q) (get_or xs i q) (rising_at dot_total xs rises at.0 i q below within) in
                omega (arith, le, count, counter_is q)
            | inr above ↦ absurd (none at.0 q above at.1 (ap (λ (x : Dot). x.node) at.2 ∙ of))
          ]
        ]

-- where no dot is of the node
pub greatest_past : (xs : List Dot) (node : List ℕ) → ((k : ℕ) (d : Dot) → k < length xs → (get_or xs k d).node ≡ node → ⊥) → IsGreatest (among dot_cmp xs) node 0
greatest_past xs node none = record {
  bound = λ q of has. let at : (k : ℕ) × (k < length xs) × (get_or xs k q ≡ q) = place_of xs q has in absurd (none at.0 q at.1 (ap (λ (x : Dot). x.node) at.2 ∙ of));
  reached = λ lt. absurd (omega (arith, lt));
}

-- one place more with a dot of another node
pub none_more : (xs : List Dot) (i : ℕ) (node : List ℕ) (e : Dot) → ((k : ℕ) (d : Dot) → i ≤ k → k < length xs → (get_or xs k d).node ≡ node → ⊥) → ((get_or xs (i - 1) e).node ≡ node → ⊥)
    → (k : ℕ) (d : Dot) → i - 1 ≤ k → k < length xs → (get_or xs k d).node ≡ node → ⊥
none_more xs i node e none other k d above within same = elim (cases_lt k i) [
  | inl below ↦
      let at : k ≡ i - 1 = omega (arith, below, above) in
      other (ap (λ j. (get_or xs j e).node) (sym at) ∙ ap (λ (x : Dot). x.node) (get_or_default xs k e d within) ∙ same)
  | inr later ↦ none k d later within same
]
