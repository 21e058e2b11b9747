-- A kept child has the specification that its dot was added with.
use Rattle.std.specs.Prelude.{◌≡◌, ℕ, ◌+◌, Bool, true, false, cond, not, List, [], ◌∷◌, ◌++◌, filter, filter_map, flat_map, Option, Some, None, slice_get, refl, unwrap_or}
use Rattle.std.specs.List.{AllByRecursion, cons_option}
use Rattle.std.specs.Ordering.{is_eq}
use Rattle.std.specs.Str.{bytes_eq}
use Rattle.std.specs.Map.{lookup, set_value}
use Rattle.std.specs.Cmp.{tied_itself}
use Rattle.std.proofs.Common.{sym, ap, ◌∙◌, subst}
use Rattle.std.proofs.lemmas.Bool.{or_left, or_right}
use Rattle.sup_specs.specs.Values.{Bytes}
use Rattle.sup_specs.specs.Rising.{among}
use Rattle.sup_causal.specs.declared.dot.Dot.{Dot}
use Rattle.sup_tables.specs.declared.row.Row.{Row}
use Rattle.sup_tables.specs.declared.row.Entry.{Entry}
use Rattle.sup_tables.specs.declared.row.Entry.TheVariants.{Member, Child, Name}
use Rattle.sup_tables.specs.Rows.{Table, children, key_of, spec_of, is_in, is_at, row_cmp}
use Rattle.sup_tables.specs.RowLaws.{row_total}
use Rattle.sup_tables.specs.Operations.{live}
use Rattle.sup_tables.specs.Readers.{eligible, entries, keys, winner}
use Rattle.sup_tables.specs.Stored.{child_row}
use Rattle.sup_tables.proofs.AddLaws.{added_of_live, among-added-append, and-first}
use Rattle.sup_placement.specs.Place.{Weigher, place}
use Rattle.sup_local_sup.specs.declared.effect.Incarnation.{Incarnation}
use Rattle.sup_local_sup.specs.declared.kept.Entry as held
use Rattle.sup_local_sup.specs.declared.leaving.Leaving.{Leaving}
use Rattle.sup_local_sup.specs.declared.leaving.Leaving.TheVariants.{Nobody, Finished, GaveUp}
use Rattle.sup_local_sup.specs.declared.wanted.Wanted.{Wanted}
use Rattle.sup_local_sup.specs.Keeping.{KeptChild, is_kept, is_wanted, kept_after, newly, numbered}
use Rattle.sup_local_sup.specs.Planning.{kept_of_leaving, restart_kept}
use Rattle.sup_local_sup.specs.Supervising.{Supervisor, renewed}
use Rattle.sup_local_sup.proofs.CountedLaws.{all-append, all-filter}
use Rattle.sup_replica.specs.Nodes.{is_placed_on, wanted_of, wanted_row, wanted_at}
use Rattle.sup_model.specs.Clean.{HasRow}
use Rattle.sup_model.specs.Headline.{KeepsAdded, kept_row}
use Rattle.sup_model.specs.Worlds.{Ops}

-- ---- what is wanted was added
child_entry : (d : Dot) (e : Entry) → is_in children (record { dot = d; entry = e }) ≡ true → child_row (key_of e) d (spec_of e) ≡ record { dot = d; entry = e }
child_entry d (Member m info) is = cc
child_entry d (Child id spec) is = refl
child_entry d (Name name id) is = cc

-- a winner is one of the rows, of its table
won : (rows : List Row) (table : Table) (key : Bytes) (r : Row) → winner rows table key ≡ Some r → (is_in table r ≡ true) × (among row_cmp rows r ≡ true)
won [] table key r e = absurd cc
won (q ∷ qs) table key r e =
    elim (is_at table key q) as (λ b. is_at table key q ≡ b → slice_get (cond b (q ∷ entries qs table key) (entries qs table key)) 0 ≡ Some r → (is_in table r ≡ true) × (among row_cmp (q ∷ qs) r ≡ true)) [
      | true ↦ λ h f. let same : q ≡ r = cc in subst (λ x. (is_in table x ≡ true) × (among row_cmp (q ∷ qs) x ≡ true)) same (and-first (is_in table q) _ h, or_left _ _ (ap is_eq (tied_itself row_total q)))
      | false ↦ λ h f. let w = won qs table key r f in (w.0, or_right _ _ w.1)
    ] refl e

abbrev wanted_child : Wanted → Row
wanted_child w = child_row w.id w.dot w.spec

abbrev Wants : Ops → List Wanted → Type 0
Wants ops = AllByRecursion (λ (w : Wanted). HasRow ops (wanted_child w))

module _ (ops : Ops) (weigher : Weigher) (me : Bytes) (hosts : List Bytes) where
  wants_row : (r : Row) (rest : List Wanted) → is_in children r ≡ true → among row_cmp (live ops) r ≡ true → Wants ops rest → (b : Bool) → Wants ops (cond b (wanted_of r ∷ []) [] ++ rest)
  wants_row r rest is here h true = (subst (HasRow ops) (sym (child_entry r.dot r.entry is)) (added_of_live ops r here), h)
  wants_row r rest is here h false = h

  wants_one : (k : Bytes) (ks : List Bytes) → Wants ops (flat_map (wanted_row weigher me hosts) (filter_map (winner (live ops) children) ks)) → (o : Option Row) → winner (live ops) children k ≡ o
      → Wants ops (flat_map (wanted_row weigher me hosts) (cons_option o (filter_map (winner (live ops) children) ks)))
  wants_one k ks h None e = h
  wants_one k ks h (Some r) e = let w = won (live ops) children k r e in wants_row r _ w.0 w.1 h (is_placed_on me (place weigher hosts (key_of r.entry)))

  wants : (ks : List Bytes) → Wants ops (flat_map (wanted_row weigher me hosts) (filter_map (winner (live ops) children) ks))
  wants [] = tt
  wants (k ∷ ks) = wants_one k ks (wants ks) (winner (live ops) children k) refl

pub wants_added : (weigher : Weigher) (me : Bytes) (ops : Ops) → Wants ops (wanted_at weigher me (live ops))
wants_added weigher me ops = wants ops weigher me (eligible (live ops)) (keys (live ops) children)

-- ---- what is kept was wanted
numbered_added : (ops : Ops) (boot given : ℕ) (ws : List Wanted) → Wants ops ws → KeepsAdded ops (numbered boot given ws)
numbered_added ops boot given [] h = tt
numbered_added ops boot given (w ∷ ws) h = (h.0, numbered_added ops boot (given + 1) ws h.1)

pub kept_added : (ops : Ops) (boot given : ℕ) (kept : List KeptChild) (wanted : List Wanted) → KeepsAdded ops kept → Wants ops wanted → KeepsAdded ops (kept_after boot given kept wanted)
kept_added ops boot given kept wanted h w =
    let P = λ (k : KeptChild). HasRow ops (kept_row k) in
    all-append P (filter (is_wanted wanted) kept) (numbered boot given (newly kept wanted)) (all-filter P (is_wanted wanted) kept h)
    (numbered_added ops boot given (newly kept wanted) (all-filter (λ (v : Wanted). HasRow ops (wanted_child v)) (λ v. not (is_kept kept v)) wanted w))

pub added_stays : (ops more : Ops) (kept : List KeptChild) → KeepsAdded ops kept → KeepsAdded (ops ++ more) kept
added_stays ops more [] h = tt
added_stays ops more (k ∷ ks) h = (among-added-append ops more (kept_row k) ∙ or_left _ _ h.0, added_stays ops more ks h.1)

pub left_added : (ops : Ops) (kept : List KeptChild) (leaving : Leaving) → KeepsAdded ops kept → KeepsAdded ops (kept_of_leaving kept leaving)
left_added ops kept Nobody h = h
left_added ops kept (Finished id) h = all-filter (λ (k : KeptChild). HasRow ops (kept_row k)) (λ k. not (bytes_eq id k.0)) kept h
left_added ops kept (GaveUp id) h = tt

-- ---- and in its next run
set_added : (ops : Ops) (id : Bytes) (inc : Incarnation) (e : held.Entry) (es : List KeptChild) → lookup (bytes_eq id) es ≡ Some e → KeepsAdded ops es → KeepsAdded ops (set_value (bytes_eq id) es (record e { inc = inc }))
set_added ops id inc e [] at h = tt
set_added ops id inc e (x ∷ es) at h =
    elim (bytes_eq id x.0) as (λ b. cond b (Some x.1) (lookup (bytes_eq id) es) ≡ Some e → KeepsAdded ops (cond b ((x.0, record e { inc = inc }) ∷ es) (x ∷ set_value (bytes_eq id) es (record e { inc = inc })))) [
      | true ↦ λ f. (subst (λ (y : held.Entry). HasRow ops (kept_row (x.0, y))) (ap (λ (o : Option held.Entry). record (unwrap_or o e) { inc = inc }) f) h.0, h.1)
      | false ↦ λ f. (h.0, set_added ops id inc e es f h.1)
    ] at

added_again : (ops : Ops) (v : Supervisor) (id : Bytes) (o : Option held.Entry) → lookup (bytes_eq id) v.kept ≡ o → KeepsAdded ops v.kept → KeepsAdded ops (restart_kept v id o)
added_again ops v id None at h = h
added_again ops v id (Some e) at h = set_added ops id (renewed v e).inc e v.kept at h

pub renewed_added : (ops : Ops) (v : Supervisor) (id : Bytes) → KeepsAdded ops v.kept → KeepsAdded ops (restart_kept v id (lookup (bytes_eq id) v.kept))
renewed_added ops v id h = added_again ops v id (lookup (bytes_eq id) v.kept) refl h
