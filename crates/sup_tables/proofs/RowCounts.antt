-- How many rows states have: one of stores, and the join of two.
use Rattle.std.specs.Prelude.{◌≡◌, ◌≤◌, ◌+◌, List, [], ◌∷◌, ◌++◌, length, filter, Bool, true, false, cond}
use Rattle.std.specs.declared.cmp.Ordering.{Ordering}
use Rattle.std.specs.declared.cmp.Ordering.TheVariants.{Less, Equal, Greater}
use Rattle.std.specs.FinMap.Entries.{by_order}
use Rattle.std.proofs.Common.{ap, ◌∙◌, length-append, arith}
use Rattle.sup_specs.specs.Rising.{put_in, rising}
use Rattle.sup_causal.specs.Dots.{Context}
use Rattle.sup_tables.specs.Rows.{row_cmp}
use Rattle.sup_tables.specs.States.{State}
use Rattle.sup_tables.specs.Joined.{join_states, rows_of_both, stays}
use Rattle.sup_tables.specs.Stored.{StoredTables, count_stored, state_of}
use Rattle.sup_tables.proofs.CountLaws.{stored_count}
use Rattle.sup_tables.proofs.OrderedRows.{stored_is}
use Rattle.sup_tables.proofs.StoredLaws.{IsOrderedStored}

-- a set with one element more has at most one more
put_length : {X : Type 0} (cmp : X → X → Ordering) (x : X) (xs : List X) → length (put_in cmp x xs) ≤ length xs + 1
put_length cmp x [] = omega arith
put_length cmp x (y ∷ ys) = at (cmp x y) (put_length cmp x ys)
  where
    at : (o : Ordering) → length (put_in cmp x ys) ≤ length ys + 1 → length (by_order o (x ∷ y ∷ ys) (y ∷ ys) (y ∷ put_in cmp x ys)) ≤ length (y ∷ ys) + 1
    at Less h = omega arith
    at Equal h = omega arith
    at Greater h = omega (arith, h)

rising_length : {X : Type 0} (cmp : X → X → Ordering) (xs : List X) → length (rising cmp xs) ≤ length xs
rising_length cmp [] = omega arith
rising_length cmp (x ∷ xs) =
    let one = put_length cmp x (rising cmp xs) in
    let rest = rising_length cmp xs in
    omega (arith, one, rest)

filter_length : {X : Type 0} (p : X → Bool) (xs : List X) → length (filter p xs) ≤ length xs
filter_length p [] = omega arith
filter_length p (x ∷ xs) = at (p x) (filter_length p xs)
  where
    at : (b : Bool) → length (filter p xs) ≤ length xs → length (cond b (x ∷ filter p xs) (filter p xs)) ≤ length (x ∷ xs)
    at true h = omega (arith, h)
    at false h = omega (arith, h)

-- two states have at most the rows of both
pub both_length : (a b : State) → length (join_states a b).rows ≤ length a.rows + length b.rows
both_length a b =
    let risen = rising_length row_cmp (rows_of_both a b) in
    let left = filter_length (stays a b) (a.rows ++ b.rows) in
    let all = length-append a.rows b.rows in
    omega (arith, risen, left, all)

-- a state has as many rows as its stores have values
pub state_count : (context : Context) (s : StoredTables) → IsOrderedStored s → length (state_of context s).rows ≡ count_stored s
state_count context s o = ap length (stored_is s o) ∙ stored_count s
