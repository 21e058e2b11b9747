-- The buffer: deltas joined one after another, and acknowledgements kept in a map.
use Rattle.std.specs.Prelude.{ℕ, ◌≡◌, ◌+◌, ◌<◌, ◌≤◌, Bool, true, false, cond, List, [], ◌∷◌, length, drop, slice_get, Option, Some, None, refl, if◌then◌else◌}
use Rattle.std.specs.Option.{unwrap_or}
use Rattle.std.specs.Ordering.{eq_by_cmp}
use Rattle.std.specs.BTreeMap.{BTreeMap, get, Updates}
use Rattle.std.proofs.Common.{sym, ap, ◌∙◌}
use Rattle.std.proofs.lemmas.Cmp.{eq_by_cmp_equiv}
use Rattle.std.proofs.lemmas.List.{at_drop_more}
use Rattle.std.proofs.lemmas.Option.{get_or_from_slice_get, slice_get-get_or, slice_get_within}
use Rattle.std.specs.Cmp.Lexicographic.{nat_list_cmp_total}
use Rattle.sup_specs.specs.Values.{Bytes, text_cmp}
use Rattle.sup_tables.specs.States.{State}
use Rattle.sup_tables.specs.Joined.{IsTables, no_state, join_states}
use Rattle.sup_tables.proofs.OneForm.{nothing_is_tables}
use Rattle.sup_tables.proofs.StateJoins.{tables_both, states_commute, states_associate, nothing_more, covered_more}
use Rattle.sup_anti_entropy.specs.Shipments.{joined_deltas, taken_in, IsEnough}

pub taken_is : (s : State) (ds : List State) → IsTables s → taken_in s ds ≡ join_states s (joined_deltas ds)
taken_is s [] t = sym (nothing_more s t)
taken_is s (d ∷ ds) t = taken_is (join_states s d) ds (tables_both s d) ∙ states_associate s d (joined_deltas ds)

pub joined_is_enough : (deltas : List State) (state : State) → IsEnough deltas state (joined_deltas deltas)
joined_is_enough ds state base above is tb ta e =
    ap (λ s. join_states s (joined_deltas ds)) (sym (covered_more above base ta e))
    ∙ states_associate above base (joined_deltas ds)
    ∙ ap (join_states above) (sym (is ∙ taken_is base ds tb))

value_of : (b : Bool) (v : ℕ) (o : Option ℕ) → unwrap_or (cond b (Some v) o) 0 ≡ (if b then v else unwrap_or o 0)
value_of true v o = refl
value_of false v o = refl

-- what is read after a number was put at a peer
pub acked_at : (old new : BTreeMap Bytes ℕ) (from : Bytes) (v : ℕ) → Updates text_cmp old new from (Some v)
    → (peer : Bytes) → unwrap_or (get text_cmp new peer) 0 ≡ (if eq_by_cmp text_cmp peer from then v else unwrap_or (get text_cmp old peer) 0)
acked_at old new from v updates peer =
    ap (λ o. unwrap_or o 0) (updates.0 peer)
    ∙ value_of _ v (get text_cmp old peer)
    ∙ ap (λ b. if b then v else unwrap_or (get text_cmp old peer) 0) ((eq_by_cmp_equiv nat_list_cmp_total).symm from peer)

joined_tables : (ds : List State) → IsTables (joined_deltas ds)
joined_tables [] = nothing_is_tables
joined_tables (d ∷ ds) = tables_both d (joined_deltas ds)

-- deltas taken into nothing, one after another, are the deltas joined
pub taken_alone : (ds : List State) → taken_in no_state ds ≡ joined_deltas ds
taken_alone ds = taken_is no_state ds nothing_is_tables ∙ states_commute no_state (joined_deltas ds) ∙ nothing_more (joined_deltas ds) (joined_tables ds)

-- the next delta is the first of those left
pub next_taken : (s : State) (ds : List State) (i : ℕ) (d : State) → slice_get ds i ≡ Some d → taken_in (join_states s d) (drop (i + 1) ds) ≡ taken_in s (drop i ds)
next_taken s ds i d e =
    ap (λ x. taken_in (join_states s x) (drop (i + 1) ds)) (sym (get_or_from_slice_get ds i d d e))
    ∙ sym (at_drop_more (taken_in s) ds i d (slice_get_within ds i d e))

-- none is missing before the end
pub none_missing : (ds : List State) (i : ℕ) → slice_get ds i ≡ None → i < length ds → ⊥
none_missing ds i e h = let some = sym e ∙ slice_get-get_or ds i no_state h in absurd cc
