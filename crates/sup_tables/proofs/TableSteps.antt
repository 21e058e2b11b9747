-- What becomes of a table's rows by a plan, row by row: each stays, goes or comes.
use Rattle.std.proofs.Common.{◌≡◌, true, false, cond, List, [], ◌∷◌, ◌++◌, map, Option, Some, None, Ordering, Less, Equal, Greater, is_lt, is_eq, refl, sym, subst, ap, ap₂, ◌∙◌, append_assoc}
use Rattle.std.specs.Cmp.{IsTotalOrder}
use Rattle.std.specs.Ordering.{ordering_then, ordering_reverse}
use Rattle.std.specs.List.{AllByRecursion}
use Rattle.std.specs.List.Sorted.{IsStrictlySortedBy}
use Rattle.std.specs.Map.{keys_of, lookup}
use Rattle.std.specs.BTreeMap.{is_at}
use Rattle.std.proofs.lemmas.Cmp.{tied_itself}
use Rattle.sup_edits.specs.declared.edit.Edit.TheVariants.{Comes, Goes}
use Rattle.sup_edits.specs.Steps.{Step, stays, comes, goes, item_of, AreOrdered, edits_in, old_items, new_items}
use Rattle.sup_edits.proofs.StepParts.{AreBefore, edits-append, old-append, new-append, ordered-append, all_both, old-stays, new-stays, edits-stays, items-stays, old-comes, new-comes, edits-comes, items-comes, old-goes, new-goes, edits-goes, items-goes, ordered-stays, ordered-comes, ordered_behind_goes}
use Rattle.sup_causal.specs.declared.dot.Dot.{Dot}
use Rattle.sup_causal.specs.Dots.{dot_cmp}
use Rattle.sup_dot_store.specs.declared.dot_fun.DotFun.{DotFun}
use Rattle.sup_dot_store.specs.Contents.{values_of}
use Rattle.sup_dot_store.specs.RowLists.{rows_in}
use Rattle.sup_dot_store.proofs.RowListLaws.{all_append, rising_append}
use Rattle.sup_indexed.specs.Touched.{function_after}
use Rattle.sup_tables.specs.Stored.{values_under}
use Rattle.sup_tables.specs.Edits.{rows_at, table_edits}

all_of_both : {X : Type 0} (P Q R : X → Type 0) → ((x : X) → P x → Q x → R x) → (xs : List X) → AllByRecursion P xs → AllByRecursion Q xs → AllByRecursion R xs
all_of_both P Q R both [] a b = tt
all_of_both P Q R both (x ∷ xs) a b = (both x a.0 b.0, all_of_both P Q R both xs a.1 b.1)

pub all_true : {X : Type 0} (xs : List X) → AllByRecursion (λ x. Unit {0}) xs
all_true [] = tt
all_true (x ∷ xs) = (tt, all_true xs)

all_weaker : {X : Type 0} (P Q : X → Type 0) → ((x : X) → P x → Q x) → (xs : List X) → AllByRecursion P xs → AllByRecursion Q xs
all_weaker P Q weaker [] a = tt
all_weaker P Q weaker (x ∷ xs) a = (weaker x a.0, all_weaker P Q weaker xs a.1)

-- a key is one of three ways from another
data Way {K : Type 0} (cmp : K → K → Ordering) (a b : K) : Type 0 where
  under : cmp a b ≡ Less → Way cmp a b
  same : a ≡ b → Way cmp a b
  over : cmp b a ≡ Less → cmp a b ≡ Greater → Way cmp a b

way_by : {K : Type 0} {cmp : K → K → Ordering} (total : IsTotalOrder cmp) (exact : (a b : K) → cmp a b ≡ Equal → a ≡ b) (a b : K) (o : Ordering) → cmp a b ≡ o → Way cmp a b
way_by total exact a b Less is = under is
way_by total exact a b Equal is = same (exact a b is)
way_by total exact a b Greater is = over (total.antisymm b a ∙ ap ordering_reverse is) is

way : {K : Type 0} {cmp : K → K → Ordering} (total : IsTotalOrder cmp) (exact : (a b : K) → cmp a b ≡ Equal → a ≡ b) (a b : K) → Way cmp a b
way {K} {cmp} total exact a b = way_by total exact a b (cmp a b) refl

itself : {K : Type 0} {cmp : K → K → Ordering} (total : IsTotalOrder cmp) (k : K) → cmp k k ≡ Equal
itself total k = tied_itself total k

turned : {K : Type 0} {cmp : K → K → Ordering} (total : IsTotalOrder cmp) (a b : K) → cmp a b ≡ Less → cmp b a ≡ Greater
turned total a b less = total.antisymm b a ∙ ap ordering_reverse less

-- keys that stand above one stand above all before that
above_all : {K : Type 0} {cmp : K → K → Ordering} (total : IsTotalOrder cmp) (k l : K) (ls : List K) → cmp k l ≡ Less → AllByRecursion (λ m. cmp l m ≡ Less) ls → AllByRecursion (λ m. cmp k m ≡ Less) ls
above_all {K} {cmp} total k l ls less all = all_weaker (λ m. cmp l m ≡ Less) (λ m. cmp k m ≡ Less) (λ m above. total.trans k l m less above) ls all

module _ {K V : Type 0} (cmp : K → K → Ordering) (total : IsTotalOrder cmp) (exact : (a b : K) → cmp a b ≡ Equal → a ≡ b) where
  -- the entries before a key, and those behind it
  abbrev front_of : K → List (K × DotFun V) → List (K × DotFun V)
  front_of k [] = []
  front_of k (e ∷ es) = cond (is_lt (cmp e.0 k)) (e ∷ front_of k es) []

  abbrev behind : K → List (K × DotFun V) → List (K × DotFun V)
  behind k [] = []
  behind k (e ∷ es) = cond (is_lt (cmp e.0 k)) (behind k es) (cond (is_eq (cmp e.0 k)) es (e ∷ es))

  -- the entries once these functions stand in their places
  abbrev pub entries_after : List (K × DotFun V) → List (K × DotFun V) → List (K × DotFun V)
  entries_after [] es = es
  entries_after (p ∷ ps) es = front_of p.0 es ++ p ∷ entries_after ps (behind p.0 es)

  -- ---- keys

  front_keys : (P : K → Type 0) (k : K) (es : List (K × DotFun V)) → AllByRecursion P (keys_of es) → AllByRecursion P (keys_of (front_of k es))
  front_keys P k [] all = tt
  front_keys P k (e ∷ es) all = elim (is_lt (cmp e.0 k)) as (λ b. AllByRecursion P (keys_of (cond b (e ∷ front_of k es) []))) [ true ↦ (all.0, front_keys P k es all.1) | false ↦ tt ]

  front_below : (k : K) (es : List (K × DotFun V)) → AllByRecursion (λ l. cmp l k ≡ Less) (keys_of (front_of k es))
  front_below k [] = tt
  front_below k (e ∷ es) = elim (way total exact e.0 k) [
    | under less ↦ let t : is_lt (cmp e.0 k) ≡ true = ap is_lt less in rw t (less, front_below k es)
    | same is ↦ let f : is_lt (cmp e.0 k) ≡ false = ap (λ l. is_lt (cmp e.0 l)) (sym is) ∙ ap is_lt (itself total e.0) in rw f tt
    | over less greater ↦ let f : is_lt (cmp e.0 k) ≡ false = ap is_lt greater in rw f tt
  ]

  behind_keys : (P : K → Type 0) (k : K) (es : List (K × DotFun V)) → AllByRecursion P (keys_of es) → AllByRecursion P (keys_of (behind k es))
  behind_keys P k [] all = tt
  behind_keys P k (e ∷ es) all =
      elim (is_lt (cmp e.0 k)) as (λ b. AllByRecursion P (keys_of (cond b (behind k es) (cond (is_eq (cmp e.0 k)) es (e ∷ es))))) [
        | true ↦ behind_keys P k es all.1
        | false ↦ elim (is_eq (cmp e.0 k)) as (λ b. AllByRecursion P (keys_of (cond b es (e ∷ es)))) [ true ↦ all.1 | false ↦ all ]
      ]

  behind_above : (k : K) (es : List (K × DotFun V)) → IsStrictlySortedBy cmp (keys_of es) → AllByRecursion (λ l. cmp k l ≡ Less) (keys_of (behind k es))
  unfolding IsStrictlySortedBy
  behind_above k [] s = tt
  behind_above k (e ∷ es) s = elim (way total exact e.0 k) [
    | under less ↦ let t : is_lt (cmp e.0 k) ≡ true = ap is_lt less in rw t (behind_above k es s.1)
    | same is ↦
        let f : is_lt (cmp e.0 k) ≡ false = ap (λ l. is_lt (cmp e.0 l)) (sym is) ∙ ap is_lt (itself total e.0) in
        let t : is_eq (cmp e.0 k) ≡ true = ap (λ l. is_eq (cmp e.0 l)) (sym is) ∙ ap is_eq (itself total e.0) in
        rw f (rw t (subst (λ l. AllByRecursion (λ m. cmp l m ≡ Less) (keys_of es)) is s.0))
    | over less greater ↦
        let f : is_lt (cmp e.0 k) ≡ false = ap is_lt greater in
        let g : is_eq (cmp e.0 k) ≡ false = ap is_eq greater in
        rw f (rw g (less, above_all total k e.0 (keys_of es) less s.0))
  ]

  behind_rises : (k : K) (es : List (K × DotFun V)) → IsStrictlySortedBy cmp (keys_of es) → IsStrictlySortedBy cmp (keys_of (behind k es))
  unfolding IsStrictlySortedBy
  behind_rises k [] s = s
  behind_rises k (e ∷ es) s =
      elim (is_lt (cmp e.0 k)) as (λ b. IsStrictlySortedBy cmp (keys_of (cond b (behind k es) (cond (is_eq (cmp e.0 k)) es (e ∷ es))))) [
        | true ↦ behind_rises k es s.1
        | false ↦ elim (is_eq (cmp e.0 k)) as (λ b. IsStrictlySortedBy cmp (keys_of (cond b es (e ∷ es)))) [ true ↦ s.1 | false ↦ s ]
      ]

  front_rises : (k : K) (es : List (K × DotFun V)) → IsStrictlySortedBy cmp (keys_of es) → IsStrictlySortedBy cmp (keys_of (front_of k es))
  unfolding IsStrictlySortedBy
  front_rises k [] s = s
  front_rises k (e ∷ es) s =
      elim (is_lt (cmp e.0 k)) as (λ b. IsStrictlySortedBy cmp (keys_of (cond b (e ∷ front_of k es) []))) [
        | true ↦ (front_keys (λ l. cmp e.0 l ≡ Less) k es s.0, front_rises k es s.1)
        | false ↦ tt
      ]

  -- ---- what is found under a key

  abbrev found : K → List (K × DotFun V) → Option (DotFun V)
  found k es = lookup (is_at (cmp k)) es

  none_above : (k : K) (es : List (K × DotFun V)) → AllByRecursion (λ l. cmp k l ≡ Less) (keys_of es) → found k es ≡ None
  none_above k [] all = refl
  none_above k (e ∷ es) all = let f : is_eq (cmp k e.0) ≡ false = ap is_eq all.0 in rw f (none_above k es all.1)

  found_past : (q : K) (xs ys : List (K × DotFun V)) → AllByRecursion (λ l. is_eq (cmp q l) ≡ false) (keys_of xs) → found q (xs ++ ys) ≡ found q ys
  found_past q [] ys all = refl
  found_past q (x ∷ xs) ys all = let f : is_eq (cmp q x.0) ≡ false = all.0 in rw f (found_past q xs ys all.1)

  found_behind : (k q : K) (es : List (K × DotFun V)) → cmp k q ≡ Less → found q (behind k es) ≡ found q es
  found_behind k q [] above = refl
  found_behind k q (e ∷ es) above = elim (way total exact e.0 k) [
    | under less ↦
        let t : is_lt (cmp e.0 k) ≡ true = ap is_lt less in
        let f : is_eq (cmp q e.0) ≡ false = ap is_eq (turned total e.0 q (total.trans e.0 k q less above)) in
        rw t (rw f (found_behind k q es above))
    | same is ↦
        let f : is_lt (cmp e.0 k) ≡ false = ap (λ l. is_lt (cmp e.0 l)) (sym is) ∙ ap is_lt (itself total e.0) in
        let t : is_eq (cmp e.0 k) ≡ true = ap (λ l. is_eq (cmp e.0 l)) (sym is) ∙ ap is_eq (itself total e.0) in
        let g : is_eq (cmp q e.0) ≡ false = ap is_eq (turned total e.0 q (subst (λ l. cmp l q ≡ Less) (sym is) above)) in
        rw f (rw t (rw g refl))
    | over less greater ↦
        let f : is_lt (cmp e.0 k) ≡ false = ap is_lt greater in
        let g : is_eq (cmp e.0 k) ≡ false = ap is_eq greater in
        rw f (rw g refl)
  ]

  found_front : (q k : K) (es tail : List (K × DotFun V)) → cmp q k ≡ Less → IsStrictlySortedBy cmp (keys_of es) → found q tail ≡ None → found q (front_of k es ++ tail) ≡ found q es
  unfolding IsStrictlySortedBy
  found_front q k [] tail below s none = none
  found_front q k (e ∷ es) tail below s none = elim (way total exact e.0 k) [
    | under less ↦ let t : is_lt (cmp e.0 k) ≡ true = ap is_lt less in rw t (ap (λ o. cond (is_eq (cmp q e.0)) (Some e.1) o) (found_front q k es tail below s.1 none))
    | same is ↦
        let f : is_lt (cmp e.0 k) ≡ false = ap (λ l. is_lt (cmp e.0 l)) (sym is) ∙ ap is_lt (itself total e.0) in
        let low : cmp q e.0 ≡ Less = subst (λ l. cmp q l ≡ Less) (sym is) below in
        rw f (none ∙ sym (none_above q (e ∷ es) (low, above_all total q e.0 (keys_of es) low s.0)))
    | over less greater ↦
        let f : is_lt (cmp e.0 k) ≡ false = ap is_lt greater in
        let low : cmp q e.0 ≡ Less = total.trans q k e.0 below less in
        rw f (none ∙ sym (none_above q (e ∷ es) (low, above_all total q e.0 (keys_of es) low s.0)))
  ]

  -- ---- the entries once these functions stand in their places

  all_keys : (P : K → Type 0) (xs ys : List (K × DotFun V)) → AllByRecursion P (keys_of xs) → AllByRecursion P (keys_of ys) → AllByRecursion P (keys_of (xs ++ ys))
  all_keys P [] ys a b = b
  all_keys P (x ∷ xs) ys a b = (a.0, all_keys P xs ys a.1 b)

  keys_after : (P : K → Type 0) (ps es : List (K × DotFun V)) → AllByRecursion P (keys_of ps) → AllByRecursion P (keys_of es) → AllByRecursion P (keys_of (entries_after ps es))
  keys_after P [] es a b = b
  keys_after P (p ∷ ps) es a b = all_keys P (front_of p.0 es) (p ∷ entries_after ps (behind p.0 es)) (front_keys P p.0 es b) (a.0, keys_after P ps (behind p.0 es) a.1 (behind_keys P p.0 es b))

  rise_behind : (xs ys : List (K × DotFun V)) → IsStrictlySortedBy cmp (keys_of xs) → IsStrictlySortedBy cmp (keys_of ys) → AllByRecursion (λ x. AllByRecursion (λ y. cmp x y ≡ Less) (keys_of ys)) (keys_of xs) → IsStrictlySortedBy cmp (keys_of (xs ++ ys))
  unfolding IsStrictlySortedBy
  rise_behind [] ys a b below = b
  rise_behind (x ∷ xs) ys a b below = (all_keys (λ y. cmp x.0 y ≡ Less) xs ys a.0 below.0, rise_behind xs ys a.1 b below.1)

  pub entries_rise : (ps es : List (K × DotFun V)) → IsStrictlySortedBy cmp (keys_of ps) → IsStrictlySortedBy cmp (keys_of es) → IsStrictlySortedBy cmp (keys_of (entries_after ps es))
  unfolding IsStrictlySortedBy
  entries_rise [] es sp s = s
  entries_rise (p ∷ ps) es sp s =
      let rest = entries_after ps (behind p.0 es) in
      let above : AllByRecursion (λ q. cmp p.0 q ≡ Less) (keys_of rest) = keys_after (λ q. cmp p.0 q ≡ Less) ps (behind p.0 es) sp.0 (behind_above p.0 es s) in
      rise_behind (front_of p.0 es) (p ∷ rest) (front_rises p.0 es s) (above, entries_rise ps (behind p.0 es) sp.1 (behind_rises p.0 es s))
      (all_weaker (λ l. cmp l p.0 ≡ Less) (λ x. AllByRecursion (λ y. cmp x y ≡ Less) (keys_of (p ∷ rest))) (λ l less. (less, above_all total l p.0 (keys_of rest) less above)) (keys_of (front_of p.0 es)) (front_below p.0 es))

  pub found_after : (q : K) (ps es : List (K × DotFun V)) → IsStrictlySortedBy cmp (keys_of ps) → IsStrictlySortedBy cmp (keys_of es) → found q (entries_after ps es) ≡ function_after (found q ps) (found q es)
  unfolding IsStrictlySortedBy
  found_after q [] es sp s = refl
  found_after q (p ∷ ps) es sp s =
      let rest = entries_after ps (behind p.0 es) in
      let above : AllByRecursion (λ l. cmp p.0 l ≡ Less) (keys_of rest) = keys_after (λ l. cmp p.0 l ≡ Less) ps (behind p.0 es) sp.0 (behind_above p.0 es s) in
      elim (way total exact q p.0) [
        | under less ↦
            let f : is_eq (cmp q p.0) ≡ false = ap is_eq less in
            found_front q p.0 es (p ∷ rest) less s (none_above q (p ∷ rest) (less, above_all total q p.0 (keys_of rest) less above))
            ∙ sym (ap (λ b. function_after (cond b (Some p.1) (found q ps)) (found q es)) f ∙ ap (λ o. function_after o (found q es)) (none_above q ps (above_all total q p.0 (keys_of ps) less sp.0)))
        | same is ↦
            let t : is_eq (cmp q p.0) ≡ true = ap (λ l. is_eq (cmp q l)) (sym is) ∙ ap is_eq (itself total q) in
            found_past q (front_of p.0 es) (p ∷ rest)
            (all_weaker (λ l. cmp l p.0 ≡ Less) (λ l. is_eq (cmp q l) ≡ false) (λ l less. ap is_eq (turned total l q (subst (λ k. cmp l k ≡ Less) (sym is) less))) (keys_of (front_of p.0 es)) (front_below p.0 es))
            ∙ ap (λ b. cond b (Some p.1) (found q rest)) t ∙ sym (ap (λ b. function_after (cond b (Some p.1) (found q ps)) (found q es)) t)
        | over less greater ↦
            let f : is_eq (cmp q p.0) ≡ false = ap is_eq greater in
            found_past q (front_of p.0 es) (p ∷ rest)
            (all_weaker (λ l. cmp l p.0 ≡ Less) (λ l. is_eq (cmp q l) ≡ false) (λ l low. ap is_eq (turned total l q (total.trans l p.0 q low less))) (keys_of (front_of p.0 es)) (front_below p.0 es))
            ∙ ap (λ b. cond b (Some p.1) (found q rest)) f
            ∙ found_after q ps (behind p.0 es) sp.1 (behind_rises p.0 es s)
            ∙ ap (λ o. function_after (found q ps) o) (found_behind p.0 q es less)
            ∙ sym (ap (λ b. function_after (cond b (Some p.1) (found q ps)) (found q es)) f)
      ]

  -- ---- rows, each made of a key, a dot and a value

  module _ {R : Type 0} (place : R → R → Ordering) (make : K → Dot → V → R) (agree : (k : K) (d : Dot) (v : V) (l : K) (e : Dot) (w : V) → place (make k d v) (make l e w) ≡ ordering_then (cmp k l) (dot_cmp d e)) where
    abbrev pub steps_after : List (K × DotFun V) → List (K × DotFun V) → List (Step R)
    steps_after [] es = map stays (rows_in make es)
    steps_after (p ∷ ps) es =
        map stays (rows_in make (front_of p.0 es))
        ++ (map goes (rows_at (make p.0) (values_under (found p.0 es))) ++ (map comes (rows_at (make p.0) (values_of p.1).entries) ++ steps_after ps (behind p.0 es)))

    split : (k : K) (es : List (K × DotFun V)) → IsStrictlySortedBy cmp (keys_of es) → rows_in make es ≡ rows_in make (front_of k es) ++ (rows_at (make k) (values_under (found k es)) ++ rows_in make (behind k es))
    unfolding IsStrictlySortedBy
    split k [] s = refl
    split k (e ∷ es) s = elim (way total exact e.0 k) [
      | under less ↦
          let t : is_lt (cmp e.0 k) ≡ true = ap is_lt less in
          let f : is_eq (cmp k e.0) ≡ false = ap is_eq (turned total e.0 k less) in
          rw t (rw f (ap (λ rs. rows_at (make e.0) (values_of e.1).entries ++ rs) (split k es s.1)
          ∙ sym (append_assoc (rows_at (make e.0) (values_of e.1).entries) (rows_in make (front_of k es)) (rows_at (make k) (values_under (found k es)) ++ rows_in make (behind k es)))))
      | same is ↦
          let f : is_lt (cmp e.0 k) ≡ false = ap (λ l. is_lt (cmp e.0 l)) (sym is) ∙ ap is_lt (itself total e.0) in
          let t : is_eq (cmp e.0 k) ≡ true = ap (λ l. is_eq (cmp e.0 l)) (sym is) ∙ ap is_eq (itself total e.0) in
          let g : is_eq (cmp k e.0) ≡ true = ap (λ l. is_eq (cmp l e.0)) (sym is) ∙ ap is_eq (itself total e.0) in
          rw f (rw t (rw g (ap (λ l. rows_at (make l) (values_of e.1).entries ++ rows_in make es) is)))
      | over less greater ↦
          let f : is_lt (cmp e.0 k) ≡ false = ap is_lt greater in
          let g : is_eq (cmp e.0 k) ≡ false = ap is_eq greater in
          let h : is_eq (cmp k e.0) ≡ false = ap is_eq less in
          rw f (rw g (rw h (ap (λ o. rows_at (make k) (values_under o) ++ rows_in make (e ∷ es)) (sym (none_above k es (above_all total k e.0 (keys_of es) less s.0))))))
    ]

    edits_are : (ps es old : List (K × DotFun V)) → IsStrictlySortedBy cmp (keys_of ps) → AllByRecursion (λ q. found q es ≡ found q old) (keys_of ps) → edits_in (steps_after ps es) ≡ table_edits cmp make ps old
    unfolding IsStrictlySortedBy
    edits_are [] es old sp alike = edits-stays (rows_in make es)
    edits_are (p ∷ ps) es old sp alike =
        let front = rows_in make (front_of p.0 es) in
        let gone = rows_at (make p.0) (values_under (found p.0 es)) in
        let come = rows_at (make p.0) (values_of p.1).entries in
        let rest = steps_after ps (behind p.0 es) in
        let later = edits_are ps (behind p.0 es) old sp.1 (all_of_both (λ q. cmp p.0 q ≡ Less) (λ q. found q es ≡ found q old) (λ q. found q (behind p.0 es) ≡ found q old) (λ q less is. found_behind p.0 q es less ∙ is) (keys_of ps) sp.0 alike.1) in
        edits-append (map stays front) (map goes gone ++ (map comes come ++ rest))
        ∙ ap₂ (λ x y. x ++ y) (edits-stays front) (edits-append (map goes gone) (map comes come ++ rest) ∙ ap₂ (λ x y. x ++ y) (edits-goes gone) (edits-append (map comes come) rest ∙ ap₂ (λ x y. x ++ y) (edits-comes come) later))
        ∙ sym (append_assoc (map Goes gone) (map Comes come) (table_edits cmp make ps old))
        ∙ ap (λ o. (map Goes (rows_at (make p.0) (values_under o)) ++ map Comes come) ++ table_edits cmp make ps old) alike.0

    pub edits_of : (ps es : List (K × DotFun V)) → IsStrictlySortedBy cmp (keys_of ps) → edits_in (steps_after ps es) ≡ table_edits cmp make ps es
    edits_of ps es sp = edits_are ps es es sp (all_same (keys_of ps))
      where
        all_same : (qs : List K) → AllByRecursion (λ q. found q es ≡ found q es) qs
        all_same [] = tt
        all_same (q ∷ qs) = (refl, all_same qs)

    pub old_are : (ps es : List (K × DotFun V)) → IsStrictlySortedBy cmp (keys_of es) → old_items (steps_after ps es) ≡ rows_in make es
    old_are [] es s = old-stays (rows_in make es)
    old_are (p ∷ ps) es s =
        let front = rows_in make (front_of p.0 es) in
        let gone = rows_at (make p.0) (values_under (found p.0 es)) in
        let come = rows_at (make p.0) (values_of p.1).entries in
        let rest = steps_after ps (behind p.0 es) in
        old-append (map stays front) (map goes gone ++ (map comes come ++ rest))
        ∙ ap₂ (λ x y. x ++ y) (old-stays front) (old-append (map goes gone) (map comes come ++ rest) ∙ ap₂ (λ x y. x ++ y) (old-goes gone) (old-append (map comes come) rest ∙ ap₂ (λ x y. x ++ y) (old-comes come) (old_are ps (behind p.0 es) (behind_rises p.0 es s))))
        ∙ sym (split p.0 es s)

    rows_behind : (xs ys : List (K × DotFun V)) → rows_in make (xs ++ ys) ≡ rows_in make xs ++ rows_in make ys
    rows_behind [] ys = refl
    rows_behind (x ∷ xs) ys = ap (λ rs. rows_at (make x.0) (values_of x.1).entries ++ rs) (rows_behind xs ys) ∙ sym (append_assoc (rows_at (make x.0) (values_of x.1).entries) (rows_in make xs) (rows_in make ys))

    pub new_are : (ps es : List (K × DotFun V)) → new_items (steps_after ps es) ≡ rows_in make (entries_after ps es)
    new_are [] es = new-stays (rows_in make es)
    new_are (p ∷ ps) es =
        let front = rows_in make (front_of p.0 es) in
        let gone = rows_at (make p.0) (values_under (found p.0 es)) in
        let come = rows_at (make p.0) (values_of p.1).entries in
        let rest = steps_after ps (behind p.0 es) in
        new-append (map stays front) (map goes gone ++ (map comes come ++ rest))
        ∙ ap₂ (λ x y. x ++ y) (new-stays front) (new-append (map goes gone) (map comes come ++ rest) ∙ ap₂ (λ x y. x ++ y) (new-goes gone) (new-append (map comes come) rest ∙ ap₂ (λ x y. x ++ y) (new-comes come) (new_are ps (behind p.0 es))))
        ∙ sym (rows_behind (front_of p.0 es) (p ∷ entries_after ps (behind p.0 es)))

    -- ---- their order

    below_made : (k : K) (d : Dot) (v : V) (l : K) (e : Dot) (w : V) → cmp k l ≡ Less → place (make k d v) (make l e w) ≡ Less
    below_made k d v l e w less = agree k d v l e w ∙ ap (λ o. ordering_then o (dot_cmp d e)) less

    at_key : (Q : R → Type 0) (k : K) → ((d : Dot) (v : V) → Q (make k d v)) → (vs : List (Dot × V)) → AllByRecursion Q (rows_at (make k) vs)
    at_key Q k made [] = tt
    at_key Q k made (e ∷ vs) = (made e.0 e.1, at_key Q k made vs)

    rows_by : (P : K → Type 0) (Q : R → Type 0) → ((k : K) (d : Dot) (v : V) → P k → Q (make k d v)) → (es : List (K × DotFun V)) → AllByRecursion P (keys_of es) → AllByRecursion Q (rows_in make es)
    rows_by P Q made [] all = tt
    rows_by P Q made (e ∷ es) all = all_append Q (rows_at (make e.0) (values_of e.1).entries) (rows_in make es) (at_key Q e.0 (λ d v. made e.0 d v all.0) (values_of e.1).entries) (rows_by P Q made es all.1)

    pub items_by : (P : K → Type 0) (Q : R → Type 0) → ((k : K) (d : Dot) (v : V) → P k → Q (make k d v)) → (ps es : List (K × DotFun V)) → AllByRecursion P (keys_of ps) → AllByRecursion P (keys_of es) → AllByRecursion Q (map item_of (steps_after ps es))
    items_by P Q made [] es a b = subst (AllByRecursion Q) (sym (items-stays (rows_in make es))) (rows_by P Q made es b)
    items_by P Q made (p ∷ ps) es a b =
        let front = rows_in make (front_of p.0 es) in
        let gone = rows_at (make p.0) (values_under (found p.0 es)) in
        let come = rows_at (make p.0) (values_of p.1).entries in
        let rest = steps_after ps (behind p.0 es) in
        all_both Q (map stays front) (map goes gone ++ (map comes come ++ rest)) (subst (AllByRecursion Q) (sym (items-stays front)) (rows_by P Q made (front_of p.0 es) (front_keys P p.0 es b)))
        (all_both Q (map goes gone) (map comes come ++ rest) (subst (AllByRecursion Q) (sym (items-goes gone)) (at_key Q p.0 (λ d v. made p.0 d v a.0) (values_under (found p.0 es))))
        (all_both Q (map comes come) rest (subst (AllByRecursion Q) (sym (items-comes come)) (at_key Q p.0 (λ d v. made p.0 d v a.0) (values_of p.1).entries)) (items_by P Q made ps (behind p.0 es) a.1 (behind_keys P p.0 es b))))

    values_below : (k : K) (e : Dot × V) (vs : List (Dot × V)) → AllByRecursion (λ d. dot_cmp e.0 d ≡ Less) (keys_of vs) → AllByRecursion (λ r. place (make k e.0 e.1) r ≡ Less) (rows_at (make k) vs)
    values_below k e [] all = tt
    values_below k e (f ∷ vs) all = (agree k e.0 e.1 k f.0 f.1 ∙ ap (λ o. ordering_then o (dot_cmp e.0 f.0)) (itself total k) ∙ all.0, values_below k e vs all.1)

    values_rise : (k : K) (vs : List (Dot × V)) → IsStrictlySortedBy dot_cmp (keys_of vs) → IsStrictlySortedBy place (rows_at (make k) vs)
    unfolding IsStrictlySortedBy
    values_rise k [] s = tt
    values_rise k (e ∷ vs) s = (values_below k e vs s.0, values_rise k vs s.1)

    rows_rise : (es : List (K × DotFun V)) → IsStrictlySortedBy cmp (keys_of es) → IsStrictlySortedBy place (rows_in make es)
    unfolding IsStrictlySortedBy
    rows_rise [] s = tt
    rows_rise (e ∷ es) s =
        rising_append place (rows_at (make e.0) (values_of e.1).entries) (rows_in make es) (values_rise e.0 (values_of e.1).entries e.1.ordered) (rows_rise es s.1)
        (at_key (λ x. AllByRecursion (λ y. place x y ≡ Less) (rows_in make es)) e.0 (λ d v. rows_by (λ l. cmp e.0 l ≡ Less) (λ y. place (make e.0 d v) y ≡ Less) (λ l f w less. below_made e.0 d v l f w less) es s.0) (values_of e.1).entries)

    pub are_ordered : (ps es : List (K × DotFun V)) → IsStrictlySortedBy cmp (keys_of ps) → IsStrictlySortedBy cmp (keys_of es) → AreOrdered place (steps_after ps es)
    unfolding IsStrictlySortedBy
    are_ordered [] es sp s = ordered-stays place (rows_in make es) (rows_rise es s)
    are_ordered (p ∷ ps) es sp s =
        let front = rows_in make (front_of p.0 es) in
        let gone = rows_at (make p.0) (values_under (found p.0 es)) in
        let come = rows_at (make p.0) (values_of p.1).entries in
        let rest = steps_after ps (behind p.0 es) in
        let above = behind_above p.0 es s in
        let come_first : AreBefore place (map item_of (map comes come)) (map item_of rest) =
        subst (λ xs. AreBefore place xs (map item_of rest)) (sym (items-comes come))
        (at_key (λ x. AllByRecursion (λ y. place x y ≡ Less) (map item_of rest)) p.0
        (λ d v. items_by (λ l. cmp p.0 l ≡ Less) (λ y. place (make p.0 d v) y ≡ Less) (λ l f w less. below_made p.0 d v l f w less) ps (behind p.0 es) sp.0 above) (values_of p.1).entries) in
        let front_first : AreBefore place (map item_of (map stays front)) (map item_of (map goes gone ++ (map comes come ++ rest))) =
        subst (λ xs. AreBefore place xs (map item_of (map goes gone ++ (map comes come ++ rest)))) (sym (items-stays front))
        (rows_by (λ l. cmp l p.0 ≡ Less) (λ x. AllByRecursion (λ y. place x y ≡ Less) (map item_of (map goes gone ++ (map comes come ++ rest))))
        (λ l d v less. before_all l d v less gone come rest (at_key (λ y. place (make l d v) y ≡ Less) p.0 (λ f w. below_made l d v p.0 f w less) (values_under (found p.0 es))) (at_key (λ y. place (make l d v) y ≡ Less) p.0 (λ f w. below_made l d v p.0 f w less) (values_of p.1).entries)
        (items_by (λ m. cmp l m ≡ Less) (λ y. place (make l d v) y ≡ Less) (λ m f w low. below_made l d v m f w low) ps (behind p.0 es) (above_all total l p.0 (keys_of ps) less sp.0) (above_all total l p.0 (keys_of (behind p.0 es)) less above)))
        (front_of p.0 es) (front_below p.0 es)) in
        ordered-append place (map stays front) (map goes gone ++ (map comes come ++ rest)) (ordered-stays place front (rows_rise (front_of p.0 es) (front_rises p.0 es s)))
        (ordered_behind_goes place gone (map comes come ++ rest) (ordered-append place (map comes come) rest (ordered-comes place come (values_rise p.0 (values_of p.1).entries p.1.ordered)) (are_ordered ps (behind p.0 es) sp.1 (behind_rises p.0 es s)) come_first))
        front_first
      where
        before_all : (l : K) (d : Dot) (v : V) → cmp l p.0 ≡ Less → (gone come : List R) (rest : List (Step R)) → AllByRecursion (λ y. place (make l d v) y ≡ Less) gone → AllByRecursion (λ y. place (make l d v) y ≡ Less) come → AllByRecursion (λ y. place (make l d v) y ≡ Less) (map item_of rest)
            → AllByRecursion (λ y. place (make l d v) y ≡ Less) (map item_of (map goes gone ++ (map comes come ++ rest)))
        before_all l d v less gone come rest a b c =
            all_both (λ y. place (make l d v) y ≡ Less) (map goes gone) (map comes come ++ rest) (subst (AllByRecursion (λ y. place (make l d v) y ≡ Less)) (sym (items-goes gone)) a)
            (all_both (λ y. place (make l d v) y ≡ Less) (map comes come) rest (subst (AllByRecursion (λ y. place (make l d v) y ≡ Less)) (sym (items-comes come)) b) c)
