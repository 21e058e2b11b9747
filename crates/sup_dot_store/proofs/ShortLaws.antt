-- Values by dot in a rising list: what a search finds there, and one value more or less.
use Rattle.std.specs.Prelude.{◌≡◌, ℕ, zero, suc, ◌+◌, ◌<◌, Bool, true, false, cond, List, [], ◌∷◌, length, Option, Some, None, IsSome, refl}
use Rattle.std.specs.Option.{is_some}
use Rattle.std.proofs.Common.{get_or, sym, ap, ◌∙◌, subst, arith, Err}
use mathlib.Core.Bool.{false≢true}
use Rattle.std.specs.declared.cmp.Ordering.{Ordering}
use Rattle.std.specs.declared.cmp.Ordering.TheVariants.{Less, Equal, Greater}
use Rattle.std.specs.Ordering.{is_lt, is_eq, ordering_index}
use Rattle.std.specs.Cmp.{IsTotalOrder}
use Rattle.std.specs.List.{AllByRecursion, insert, remove}
use Rattle.std.specs.List.Sorted.{IsStrictlySortedBy, IsNonDecreasingBy, IsBinarySearchResult}
use Rattle.std.specs.Map.{keys_of, lookup, remove_entry}
use Rattle.std.specs.BTreeMap.{is_at}
use Rattle.std.proofs.lemmas.Cmp.{on_total, eq_by_cmp_equiv, tied_itself}
use Rattle.std.proofs.lemmas.List.Sorted.{searchable_from_sorted}
use Rattle.std.proofs.lemmas.List.Elements.{All-from_recursion}
use Rattle.std.proofs.lemmas.Option.{slice_get-get_or, get_or_from_slice_get, slice_get_within}
use Rattle.std.proofs.lemmas.Map.{lookup-insert, lookup-remove_entry, none_passes_from_lookup}
use Rattle.std.proofs.lemmas.Map.Entries.{lookup_from_place, lookup_at_gap}
use Rattle.std.proofs.lemmas.Map.Keys.{IsDistinct-from_sorted}
use Rattle.sup_causal.specs.declared.dot.Dot.{Dot}
use Rattle.sup_causal.specs.Dots.{dot_cmp, dot_eq}
use Rattle.sup_causal.specs.DotLaws.{dot_total, dot_exact}
use Rattle.sup_causal.proofs.Rising.{greater_from_less, less_from_greater, rising_at, rising_insert}
use Rattle.sup_causal.proofs.Sorted.{pairs_rise, keys_rise_from_pairs}
use Rattle.sup_dot_store.proofs.IndexLaws.{same}

pub not_there : {V : Type 0} {o : Option V} {v : V} → o ≡ None → o ≡ Some v → ⊥
not_there none some = cc

pub not_some : {V : Type 0} {o : Option V} → o ≡ None → IsSome o → ⊥
not_some none some = false≢true (sym (ap is_some none) ∙ some)

-- what is found at the dot where a value or none was put, and elsewhere
module _ {V : Type 0} (k : Dot) (put : Option V) (old new : Dot → Option V) (puts : (q : Dot) → new q ≡ cond (dot_eq k q) put (old q)) where
  pub put_here : new k ≡ put
  put_here = puts k ∙ ap (λ o. cond (is_eq o) put (old k)) (tied_itself dot_total k)

  pub put_elsewhere : (q : Dot) → dot_eq k q ≡ false → new q ≡ old q
  put_elsewhere q apart = puts q ∙ ap (λ b. cond b put (old q)) apart

module _ {V : Type 0} where
  abbrev entry_cmp : Dot × V → Dot × V → Ordering
  entry_cmp a b = dot_cmp a.0 b.0

  entry_total : IsTotalOrder entry_cmp
  entry_total = on_total (λ (e : Dot × V). e.0) dot_total

  abbrev pub Rises : List (Dot × V) → Type 0
  Rises es = IsStrictlySortedBy dot_cmp (keys_of es)

  abbrev pub found_at : List (Dot × V) → Dot → Option V
  found_at es d = lookup (is_at (dot_cmp d)) es

  -- what is found at d once q is taken away
  abbrev pub taken_from : List (Dot × V) → Dot → Dot → Option V
  taken_from es q d = cond (dot_eq q d) None (found_at es d)

  rising : (es : List (Dot × V)) → Rises es → IsStrictlySortedBy entry_cmp es
  rising es s = pairs_rise dot_cmp es s

  pub rises_from : (es : List (Dot × V)) → IsStrictlySortedBy entry_cmp es → Rises es
  rises_from es s = keys_rise_from_pairs dot_cmp es s

  pub none_rise : (es : List (Dot × V)) → es ≡ [] → Rises es
  unfolding IsStrictlySortedBy
  none_rise es e = rises_from es (subst (IsStrictlySortedBy entry_cmp) (sym e) tt)

  pub one_rises : (es : List (Dot × V)) (e : Dot × V) → es ≡ e ∷ [] → Rises es
  unfolding IsStrictlySortedBy
  one_rises es e is = rises_from es (subst (IsStrictlySortedBy entry_cmp) (sym is) (tt, tt))

  searchable : (es : List (Dot × V)) → Rises es → (q : Dot) → IsNonDecreasingBy (λ e. ordering_index (dot_cmp e.0 q)) es
  unfolding IsStrictlySortedBy
  searchable es s q = searchable_from_sorted dot_total (λ (e : Dot × V). e.0) es q (λ k d low within. ap is_lt (greater_from_less entry_total (get_or es k d) (get_or es (k + 1) d) (rising_at entry_total es (rising es s) k (k + 1) d (omega arith) within)))

  -- what a search found
  pub found : (es : List (Dot × V)) → Rises es → (q : Dot) (i : ℕ) (d : Dot × V) → i < length es → dot_cmp (get_or es i d).0 q ≡ Equal → found_at es q ≡ Some (get_or es i d).1
  unfolding IsStrictlySortedBy
  found es s q i d within tie =
      let e = get_or es i d in
      subst (λ x. found_at es x ≡ Some e.1) (dot_exact e.0 q tie) (lookup_from_place (eq_by_cmp_equiv dot_total) es i e.0 e.1 (IsDistinct-from_sorted dot_cmp (keys_of es) s) (slice_get-get_or es i d within))

  -- what it did not find
  pub missed : (es : List (Dot × V)) → Rises es → (q : Dot) (i : ℕ) → IsBinarySearchResult (λ e. dot_cmp e.0 q) es (Err i) → found_at es q ≡ None
  unfolding IsStrictlySortedBy
  missed es s q i parted =
      let sides = parted (searchable es s q) in
      lookup_at_gap dot_total q es i s
      (λ j e low at. greater_from_less dot_total e.0 q (subst (λ x. dot_cmp x.0 q ≡ Less) (get_or_from_slice_get es j e e at) (sides.0 j e (omega arith) low)))
      (λ e at. less_from_greater dot_total e.0 q (subst (λ x. dot_cmp x.0 q ≡ Greater) (get_or_from_slice_get es i e e at) (sides.1 i e (omega arith) (slice_get_within es i e at))))

  -- one value more, at its gap
  pub put_rises : (es : List (Dot × V)) → Rises es → (q : Dot) (v : V) (i : ℕ) → IsBinarySearchResult (λ e. dot_cmp e.0 q) es (Err i) → Rises (insert es i (q, v))
  unfolding IsStrictlySortedBy
  put_rises es s q v i parted =
      let sides = parted (searchable es s q) in
      rises_from (insert es i (q, v)) (rising_insert entry_total es i (q, v) (rising es s) (λ k d lt. sides.0 k d (omega arith) lt) (λ k d le lt. sides.1 k d le lt))

  pub put_at : (es : List (Dot × V)) (q : Dot) (v : V) (i : ℕ) → found_at es q ≡ None → (d : Dot) → found_at (insert es i (q, v)) d ≡ cond (dot_eq q d) (Some v) (found_at es d)
  put_at es q v i none d = lookup-insert (eq_by_cmp_equiv dot_total) q v d es i (none_passes_from_lookup (is_at (dot_cmp q)) es none)

  -- one value less
  each_removed : (P : Dot × V → Type 0) (es : List (Dot × V)) (i : ℕ) → AllByRecursion P es → AllByRecursion P (remove es i)
  each_removed P [] zero all = tt
  each_removed P [] (suc i) all = tt
  each_removed P (e ∷ es) zero all = all.1
  each_removed P (e ∷ es) (suc i) all = (all.0, each_removed P es i all.1)

  rising_removed : (es : List (Dot × V)) (i : ℕ) → IsStrictlySortedBy entry_cmp es → IsStrictlySortedBy entry_cmp (remove es i)
  unfolding IsStrictlySortedBy
  rising_removed [] zero s = tt
  rising_removed [] (suc i) s = tt
  rising_removed (e ∷ es) zero s = s.1
  rising_removed (e ∷ es) (suc i) s = (each_removed (λ x. dot_cmp e.0 x.0 ≡ Less) es i s.0, rising_removed es i s.1)

  pub take_rises : (es : List (Dot × V)) → Rises es → (i : ℕ) → Rises (remove es i)
  take_rises es s i = rises_from (remove es i) (rising_removed es i (rising es s))

  removed : (es : List (Dot × V)) → IsStrictlySortedBy entry_cmp es → (i : ℕ) (d : Dot × V) → i < length es → remove es i ≡ remove_entry (is_at (dot_cmp (get_or es i d).0)) es
  unfolding IsStrictlySortedBy
  removed [] s i d within = absurd (omega arith)
  removed (e ∷ es) s zero d within = sym (ap (λ o. cond (is_eq o) es (e ∷ remove_entry (is_at (dot_cmp e.0)) es)) (tied_itself dot_total e.0))
  removed (e ∷ es) s (suc i) d within =
      let x = get_or es i d in
      let above : dot_cmp x.0 e.0 ≡ Greater = greater_from_less dot_total e.0 x.0 (All-from_recursion (λ y. dot_cmp e.0 y.0 ≡ Less) es s.0 i d (omega arith)) in
      ap (λ xs. e ∷ xs) (removed es s.1 i d (omega arith)) ∙ sym (ap (λ o. cond (is_eq o) es (e ∷ remove_entry (is_at (dot_cmp x.0)) es)) above)

  pub take_at : (es : List (Dot × V)) → Rises es → (q : Dot) (i : ℕ) (e : Dot × V) → i < length es → dot_cmp (get_or es i e).0 q ≡ Equal → (d : Dot) → found_at (remove es i) d ≡ cond (dot_eq q d) None (found_at es d)
  unfolding IsStrictlySortedBy
  take_at es s q i e within tie d =
      let own : (get_or es i e).0 ≡ q = dot_exact _ q tie in
      ap (λ xs. found_at xs d) (removed es (rising es s) i e within ∙ ap (λ x. remove_entry (is_at (dot_cmp x)) es) own)
      ∙ lookup-remove_entry (eq_by_cmp_equiv dot_total) (is_at (dot_cmp q)) (λ x y h. ap (λ z. dot_eq z y) (same dot_exact q x h)) d es (IsDistinct-from_sorted dot_cmp (keys_of es) s)

  -- a dot without a value, taken away
  pub none_taken : (es : List (Dot × V)) (q : Dot) → found_at es q ≡ None → (d : Dot) → found_at es d ≡ cond (dot_eq q d) None (found_at es d)
  none_taken es q none d = at (dot_eq q d) refl
    where
      at : (b : Bool) → dot_eq q d ≡ b → found_at es d ≡ cond b None (found_at es d)
      at true h = ap (found_at es) (sym (same dot_exact q d h)) ∙ none
      at false h = refl
