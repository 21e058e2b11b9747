-- A winner's key is among the keys, and what comes of winners with counted dots has counted dots.
use Rattle.std.specs.Prelude.{◌≡◌, ℕ, All, take, Bool, true, false, cond, List, [], ◌∷◌, ◌++◌, map, flat_map, filter, Some, slice_get, refl}
use Rattle.std.specs.List.{AllByRecursion}
use Rattle.std.proofs.lemmas.List.Elements.{All-take, recursion_from_All}
use Rattle.std.proofs.Common.{sym, ◌∙◌, subst}
use Rattle.sup_specs.specs.Values.{Bytes, text_cmp}
use Rattle.sup_specs.specs.OrderLaws.{text_total}
use Rattle.sup_specs.specs.Rising.{among}
use Rattle.sup_specs.proofs.RisingLaws.{among-rising}
use Rattle.std.proofs.lemmas.Bool.{or_left, or_right}
use Rattle.sup_causal.specs.Dots.{IsCounted}
use Rattle.sup_tables.specs.declared.row.Row.{Row}
use Rattle.sup_tables.specs.Rows.{Table, key_of, is_in, is_at}
use Rattle.sup_tables.specs.Readers.{entries, winner, keys}
use Rattle.sup_tables.proofs.AddLaws.{and-first, and-second}
use Rattle.sup_placement.specs.Place.{Weigher, place}
use Rattle.sup_local_sup.specs.declared.wanted.Wanted.{Wanted}
use Rattle.sup_local_sup.specs.Keeping.{AreCounted}
use Rattle.sup_replica.specs.Nodes.{is_placed_on, wanted_of, wanted_row}

-- and its key is among the keys
module _ (table : Table) (key : Bytes) where
  later_key : (q : Row) (qs : List Row) (b : Bool) → among text_cmp (map (λ x. key_of x.entry) qs) key ≡ true → among text_cmp (map (λ x. key_of x.entry) (cond b (q ∷ qs) qs)) key ≡ true
  later_key q qs true h = or_right _ _ h
  later_key q qs false h = h

  listed_key : (rows : List Row) (r : Row) → winner rows table key ≡ Some r → among text_cmp (map (λ x. key_of x.entry) (filter (is_in table) rows)) key ≡ true
  listed_key [] r e = absurd cc
  listed_key (q ∷ qs) r e =
      elim (is_at table key q) as (λ b. is_at table key q ≡ b → slice_get (cond b (q ∷ entries qs table key) (entries qs table key)) 0 ≡ Some r → among text_cmp (map (λ x. key_of x.entry) (filter (is_in table) (q ∷ qs))) key ≡ true) [
        | true ↦ λ h f. subst (λ b. among text_cmp (map (λ x. key_of x.entry) (cond b (q ∷ filter (is_in table) qs) (filter (is_in table) qs))) key ≡ true) (sym (and-first (is_in table q) _ h)) (or_left _ _ (and-second (is_in table q) _ h))
        | false ↦ λ h f. later_key q (filter (is_in table) qs) (is_in table q) (listed_key qs r f)
      ] refl e

pub key_there : (rows : List Row) (table : Table) (key : Bytes) (r : Row) → winner rows table key ≡ Some r → among text_cmp (keys rows table) key ≡ true
key_there rows table key r e = among-rising text_cmp text_total (map (λ x. key_of x.entry) (filter (is_in table) rows)) key ∙ listed_key table key rows r e

-- and what comes of winners with counted dots has counted dots
module _ (weigher : Weigher) (me : Bytes) (hosts : List Bytes) {X : Type 0} (row_of : X → Row) where
  counted_row : (r : Row) → IsCounted r.dot → (rest : List Wanted) → AreCounted rest → (b : Bool) → AreCounted (cond b (wanted_of r ∷ []) [] ++ rest)
  counted_row r e rest h true = (e, h)
  counted_row r e rest h false = h

  pub counted_rows : (xs : List X) → AllByRecursion (λ x. IsCounted (row_of x).dot) xs → AreCounted (flat_map (wanted_row weigher me hosts) (map row_of xs))
  counted_rows [] a = tt
  counted_rows (x ∷ xs) a = counted_row (row_of x) a.0 _ (counted_rows xs a.1) (is_placed_on me (place weigher hosts (key_of (row_of x).entry)))

pub counted_taken : {X : Type 0} (i : ℕ) (xs ys : List X) → ys ≡ xs → (weigher : Weigher) (me : Bytes) (hosts : List Bytes) (row_of : X → Row) → All (λ x. IsCounted (row_of x).dot) xs → AreCounted (flat_map (wanted_row weigher me hosts) (map row_of (take i ys)))
counted_taken {X} i xs ys e weigher me hosts row_of a =
    let P : X → Type 0 = λ x. IsCounted (row_of x).dot in
    counted_rows weigher me hosts row_of (take i ys) (recursion_from_All P (take i ys) (All-take P i ys (subst (λ zs. All P zs) (sym e) a)))
