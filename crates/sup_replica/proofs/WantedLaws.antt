-- What is wanted rises by id.
use Rattle.std.specs.Prelude.{◌≡◌, Bool, true, false, cond, List, [], ◌∷◌, ◌++◌, map, flat_map, filter, filter_map, Option, Some, None, slice_get, refl}
use Rattle.std.specs.declared.cmp.Ordering.{Ordering}
use Rattle.std.specs.declared.cmp.Ordering.TheVariants.{Less}
use Rattle.std.specs.List.{AllByRecursion, cons_option}
use Rattle.std.proofs.Common.{sym, ap, ◌∙◌}
use Rattle.sup_specs.specs.Values.{Bytes, text_cmp}
use Rattle.sup_specs.specs.OrderLaws.{text_total, text_tie}
use Rattle.std.specs.List.Sorted.{IsStrictlySortedBy}
use Rattle.sup_specs.proofs.RisingLaws.{rising_rises}
use Rattle.sup_causal.proofs.DotLemmas.{equal_from_is_eq}
use Rattle.sup_tables.specs.declared.row.Row.{Row}
use Rattle.sup_tables.specs.Rows.{Table, children, key_of, is_in, is_at}
use Rattle.sup_tables.specs.Readers.{entries, winner, keys, eligible}
use Rattle.sup_tables.proofs.AddLaws.{and-second}
use Rattle.sup_placement.specs.Place.{Weigher, place}
use Rattle.sup_local_sup.specs.declared.wanted.Wanted.{Wanted}
use Rattle.sup_local_sup.specs.Keeping.{by_id, IdsRise}
use Rattle.sup_replica.specs.Nodes.{is_placed_on, wanted_of, wanted_row, wanted_at}

abbrev Below : {X : Type 0} → (X → X → Ordering) → X → List X → Type 0
Below cmp x xs = AllByRecursion (λ y. cmp x y ≡ Less) xs

-- a winner is of its key
pub first_of : (rows : List Row) (table : Table) (key : Bytes) (r : Row) → winner rows table key ≡ Some r → key_of r.entry ≡ key
first_of [] table key r e = absurd cc
first_of (q ∷ qs) table key r e =
    elim (is_at table key q) as (λ b. is_at table key q ≡ b → slice_get (cond b (q ∷ entries qs table key) (entries qs table key)) 0 ≡ Some r → key_of r.entry ≡ key) [
      | true ↦ λ h f. let same : q ≡ r = cc in ap (λ x. key_of x.entry) (sym same) ∙ sym (text_tie key (key_of q.entry) (equal_from_is_eq _ (and-second (is_in table q) _ h)))
      | false ↦ λ h f. first_of qs table key r f
    ] refl e

-- what comes of one more key
module _ (rows : List Row) (weigher : Weigher) (me : Bytes) (hosts : List Bytes) where
  above_row : (w : Wanted) (k l : Bytes) → w.id ≡ k → text_cmp k l ≡ Less → (r : Row) → key_of r.entry ≡ l → (rest : List Wanted) → Below by_id w rest → (b : Bool) → Below by_id w (cond b (wanted_of r ∷ []) [] ++ rest)
  above_row w k l is less r e rest h true = ((λ i. text_cmp (is i) (e i)) ∙ less, h)
  above_row w k l is less r e rest h false = h

  above_one : (w : Wanted) (k l : Bytes) → w.id ≡ k → text_cmp k l ≡ Less → (ls : List Bytes) → Below by_id w (flat_map (wanted_row weigher me hosts) (filter_map (winner rows children) ls)) → (o : Option Row) → winner rows children l ≡ o
      → Below by_id w (flat_map (wanted_row weigher me hosts) (cons_option o (filter_map (winner rows children) ls)))
  above_one w k l is less ls h None e = h
  above_one w k l is less ls h (Some r) e = above_row w k l is less r (first_of rows children l r e) _ h (is_placed_on me (place weigher hosts (key_of r.entry)))

  wanted_above : (w : Wanted) (k : Bytes) → w.id ≡ k → (ks : List Bytes) → Below text_cmp k ks → Below by_id w (flat_map (wanted_row weigher me hosts) (filter_map (winner rows children) ks))
  wanted_above w k is [] a = tt
  wanted_above w k is (l ∷ ls) a = above_one w k l is a.0 ls (wanted_above w k is ls a.1) (winner rows children l) refl

  rise_row : (r : Row) (rest : List Wanted) → Below by_id (wanted_of r) rest → IdsRise rest → (b : Bool) → IdsRise (cond b (wanted_of r ∷ []) [] ++ rest)
  unfolding IsStrictlySortedBy
  rise_row r rest a h true = (a, h)
  rise_row r rest a h false = h

  rise_one : (l : Bytes) (ls : List Bytes) → Below text_cmp l ls → IdsRise (flat_map (wanted_row weigher me hosts) (filter_map (winner rows children) ls)) → (o : Option Row) → winner rows children l ≡ o
      → IdsRise (flat_map (wanted_row weigher me hosts) (cons_option o (filter_map (winner rows children) ls)))
  unfolding IsStrictlySortedBy
  rise_one l ls a h None e = h
  rise_one l ls a h (Some r) e = rise_row r _ (wanted_above (wanted_of r) l (first_of rows children l r e) ls a) h (is_placed_on me (place weigher hosts (key_of r.entry)))

  ids_rise : (ks : List Bytes) → IsStrictlySortedBy text_cmp ks → IdsRise (flat_map (wanted_row weigher me hosts) (filter_map (winner rows children) ks))
  unfolding IsStrictlySortedBy
  ids_rise [] s = tt
  ids_rise (l ∷ ls) s = rise_one l ls s.0 (ids_rise ls s.1) (winner rows children l) refl

-- what is wanted rises by id
pub wanted_rises : (weigher : Weigher) (me : Bytes) (rows : List Row) → IdsRise (wanted_at weigher me rows)
wanted_rises weigher me rows = ids_rise rows weigher me (eligible rows) (keys rows children) (rising_rises text_cmp text_total (map (λ r. key_of r.entry) (filter (is_in children) rows)))
