-- What a plan touches.
use Rattle.std.specs.Prelude.{◌≡◌, ◌↔◌, Bool, true, ◌&&◌, List, [], ◌∷◌, map, Option, Some, None, IsTrue, slice_get, refl}
use Rattle.std.specs.Option.{option_map}
use Rattle.std.specs.declared.cmp.Ordering.{Ordering}
use Rattle.std.specs.declared.cmp.Ordering.TheVariants.{Less}
use Rattle.std.specs.Ordering.{eq_by_cmp, ordering_then}
use Rattle.std.specs.Cmp.{both_ways, tied_itself}
use Rattle.sup_specs.specs.OrderLaws.{text_total}
use Rattle.sup_dot_store.specs.Places.{optional_held}
use Rattle.sup_dot_store.specs.Index.{value_of}
use Rattle.sup_indexed.specs.Changed.{changed_at}
use Rattle.std.specs.List.{AllByRecursion}
use Rattle.std.specs.List.Sorted.{IsStrictlySortedBy}
use Rattle.std.specs.Map.{keys_of, lookup}
use Rattle.std.specs.BTreeMap.{get, is_at as is_key}
use Rattle.std.proofs.Common.{Bor, sym, ap, ◌∙◌, subst}
use Rattle.std.proofs.lemmas.Option.{same_Some}
use Rattle.std.proofs.lemmas.List.Kept.{IsStrictlySortedBy-filter}
use Rattle.std.proofs.lemmas.Map.Views.{any-filter_same}
use Rattle.sup_specs.specs.Values.{Bytes, text_cmp}
use Rattle.sup_specs.specs.Rising.{among}
use Rattle.sup_specs.proofs.RisingLaws.{rising_same, rising_rises}
use Rattle.sup_specs.specs.declared.child.ChildSpec.{ChildSpec}
use Rattle.sup_specs.specs.declared.child.MemberInfo.{MemberInfo}
use Rattle.sup_causal.specs.declared.dot.Dot.{Dot}
use Rattle.sup_causal.specs.Dots.{Context, dot_cmp}
use Rattle.sup_causal.proofs.DotLemmas.{dot_eq-refl}
use Rattle.sup_dot_store.specs.declared.dot_fun.DotFun.{DotFun}
use Rattle.sup_dot_store.specs.Contents.{values_of}
use Rattle.sup_indexed.specs.Contents.{functions_planned}
use Rattle.sup_indexed.specs.Touched.{first_in, function_after, first_has}
use Rattle.sup_tables.specs.declared.row.Row.{Row}
use Rattle.sup_tables.specs.declared.planning.PlannedTables.{PlannedTables}
use Rattle.sup_tables.specs.Rows.{Table, members, children, table_of, key_of, spec_of, row_cmp, is_at}
use Rattle.sup_tables.specs.RowLaws.{row_total, row_tie}
use Rattle.sup_tables.specs.Readers.{entries, winner, is_open}
use Rattle.sup_tables.specs.States.{State, IsKept, is_point, row_at}
use Rattle.sup_tables.specs.Stored.{StoredTables, value_in, member_row, child_row, state_of}
use Rattle.sup_tables.specs.Planned.{planned_row, IsPlanFor, AreTouched, MembersDiffer}
use Rattle.sup_tables.proofs.AddLaws.{same_row, and-first, and-second}
use Rattle.sup_tables.proofs.EligibleLaws.{opens, eligible_told, eligible_same}
use Rattle.sup_tables.proofs.EntryLaws.{shown}
use Rattle.sup_tables.proofs.OperationLaws.{is_row_of}
use Rattle.sup_tables.proofs.OrderedRows.{rising_already}
use Rattle.sup_tables.proofs.PlannedJoins.{row_stored, changed_made}
use Rattle.sup_tables.proofs.PointLaws.{text_itself, IsAt, at_point, find_some, row_of_is, is_row_of-itself}
use Rattle.sup_tables.proofs.StoredLaws.{IsOrderedStored, among-values}

-- rows of one key that are made of values by rising dots rise
made_rise : {V : Type 0} (make : Dot → V → Row) → ((d e : Dot) (v w : V) → dot_cmp d e ≡ Less → row_cmp (make d v) (make e w) ≡ Less) → (es : List (Dot × V)) → IsStrictlySortedBy dot_cmp (keys_of es) → IsStrictlySortedBy row_cmp (map (λ e. make e.0 e.1) es)
unfolding IsStrictlySortedBy
made_rise make less [] s = tt
made_rise make less (e ∷ es) s = (above es s.0, made_rise make less es s.1)
  where
    above : (fs : List (Dot × _)) → AllByRecursion (λ d. dot_cmp e.0 d ≡ Less) (keys_of fs) → AllByRecursion (λ r. row_cmp (make e.0 e.1) r ≡ Less) (map (λ f. make f.0 f.1) fs)
    above [] a = tt
    above (f ∷ fs) a = (less e.0 f.0 e.1 f.1 a.0, above fs a.1)

module _ {V : Type 0} (table : Table) (k : Bytes) (make : Dot → V → Row) (made_dot : (d : Dot) (v : V) → (make d v).dot ≡ d)
    (made_at : (d : Dot) (v : V) → is_at table k (make d v) ≡ true)
    (less : (d e : Dot) (v w : V) → dot_cmp d e ≡ Less → row_cmp (make d v) (make e w) ≡ Less) where
  -- the entries of a key are told by its points
  pub entries_told : (u : State) → IsKept u → (es : List (Dot × V)) → IsStrictlySortedBy dot_cmp (keys_of es) → ((d : Dot) → row_at u.rows d table k ≡ option_map (make d) (lookup (is_key (dot_cmp d)) es))
      → entries u.rows table k ≡ map (λ e. make e.0 e.1) es
  entries_told u kept es rise told =
      sym (rising_already row_cmp (entries u.rows table k) (IsStrictlySortedBy-filter row_cmp (is_at table k) u.rows (subst (IsStrictlySortedBy row_cmp) kept.rising (rising_rises row_cmp row_total u.rows))))
      ∙ rising_same row_cmp row_total row_tie (entries u.rows table k) (map (λ e. make e.0 e.1) es) same
      ∙ rising_already row_cmp (map (λ e. make e.0 e.1) es) (made_rise make less es rise)
    where
      at_its_key : (q : Row) → is_at table k q ≡ true → IsAt q.dot table k q
      at_its_key q e = at_point q.dot table k q (λ i. dot_eq-refl q.dot i && e i)

      there : (q : Row) → is_at table k q ≡ true → row_at u.rows q.dot (table_of q.entry) (key_of q.entry) ≡ row_at u.rows q.dot table k
      there q e = let at = at_its_key q e in λ i. row_at u.rows q.dot (sym at.table i) (sym at.key i)

      into : (q : Row) → (is_at table k q && among row_cmp u.rows q) ≡ true → is_row_of q (option_map (make q.dot) (lookup (is_key (dot_cmp q.dot)) es)) ≡ true
      into q e =
          let here = and-first (is_at table k q) (among row_cmp u.rows q) e in
          let is = and-second (is_at table k q) (among row_cmp u.rows q) e in
          is_row_of-itself q _ (sym (told q.dot) ∙ sym (there q here) ∙ kept.single q is)

      made_of : (o : Option V) (d : Dot) (q : Row) → option_map (make d) o ≡ Some q → is_at table k q ≡ true
      made_of None d q e = absurd cc
      made_of (Some v) d q e = ap (is_at table k) (sym (same_Some (make d v) q e)) ∙ made_at d v

      from : (q : Row) → is_row_of q (option_map (make q.dot) (lookup (is_key (dot_cmp q.dot)) es)) ≡ true → (is_at table k q && among row_cmp u.rows q) ≡ true
      from q e =
          let is = row_of_is q (option_map (make q.dot) (lookup (is_key (dot_cmp q.dot)) es)) e in
          let here = made_of (lookup (is_key (dot_cmp q.dot)) es) q.dot q is in
          let found = find_some (is_point q.dot table k) u.rows q (told q.dot ∙ is) in
          λ i. here i && found.0 i

      same : (q : Row) → among row_cmp (entries u.rows table k) q ≡ among row_cmp (map (λ e. make e.0 e.1) es) q
      same q =
          any-filter_same (eq_by_cmp row_cmp q) (is_at table k) (is_at table k q) (λ r e. ap (is_at table k) (sym (same_row q r e))) u.rows
          ∙ both_ways (is_at table k q && among row_cmp u.rows q) (is_row_of q (option_map (make q.dot) (lookup (is_key (dot_cmp q.dot)) es))) (into q) (from q)
          ∙ sym (among-values make made_dot es rise q)

  first_made : (es : List (Dot × V)) → slice_get (map (λ e. make e.0 e.1) es) 0 ≡ option_map (λ e. make e.0 e.1) (slice_get es 0)
  first_made [] = refl
  first_made (e ∷ es) = refl

  -- the winner of a key is the first of its values
  pub winner_told : (u : State) → IsKept u → (o : Option (DotFun V)) → ((d : Dot) → row_at u.rows d table k ≡ option_map (make d) (optional_held value_of o d tt)) → winner u.rows table k ≡ option_map (λ e. make e.0 e.1) (first_in o)
  unfolding IsStrictlySortedBy
  winner_told u kept None told = ap (λ rs. slice_get rs 0) (entries_told u kept [] tt told)
  winner_told u kept (Some f) told = ap (λ rs. slice_get rs 0) (entries_told u kept (values_of f).entries f.ordered told) ∙ first_made (values_of f).entries

  module _ (back : Row → Dot × V) (backs : (d : Dot) (v : V) → let x : Dot × V = (d, v) in back (make d v) ≡ x) where
    unmade : (o : Option (Dot × V)) → option_map back (option_map (λ e. make e.0 e.1) o) ≡ o
    unmade None = refl
    unmade (Some e) = ap Some (backs e.0 e.1)

    pub same_made : (o p : Option (Dot × V)) → option_map (λ e. make e.0 e.1) o ≡ option_map (λ e. make e.0 e.1) p → o ≡ p
    same_made o p e = sym (unmade o) ∙ ap (option_map back) e ∙ unmade p

opens_made : (m : Bytes) (o : Option (Dot × MemberInfo)) → opens (option_map (λ e. member_row m e.0 e.1) o) ≡ first_has (λ info. is_open info.status) o
opens_made m None = refl
opens_made m (Some e) = refl

pub changed_held : {V : Type 0} (g old : Option (DotFun V)) (d : Dot) → changed_at g (optional_held value_of old d tt) d ≡ optional_held value_of (function_after g old) d tt
changed_held None old d = refl
changed_held (Some f) old d = refl

-- rows of one key go by their dots
less_of_key : (k : Bytes) (o v : Ordering) → o ≡ Less → ordering_then (ordering_then (text_cmp k k) o) v ≡ Less
less_of_key k o v e = ap (λ q. ordering_then (ordering_then q o) v) (tied_itself text_total k) ∙ ap (λ q. ordering_then q v) e

module _ (p : PlannedTables) (context : Context) (a : StoredTables) (o : IsOrderedStored a) (kept : IsKept (state_of context a)) (u : State) (is : IsPlanFor p (state_of context a) u) where
  abbrev old : State
  old = state_of context a

  module _ (id : Bytes) where
    child_before : winner old.rows children id ≡ option_map (λ e. child_row id e.0 e.1) (first_in (lookup (is_key (text_cmp id)) a.child_values))
    child_before =
        winner_told children id (child_row id) (λ d v. refl) (λ d v. text_itself id) (λ d e v w h. less_of_key id _ _ h) old kept (lookup (is_key (text_cmp id)) a.child_values) (λ d. row_stored context a o d children id)

    child_now : winner u.rows children id ≡ option_map (λ e. child_row id e.0 e.1) (first_in (function_after (get text_cmp (functions_planned p.children) id) (lookup (is_key (text_cmp id)) a.child_values)))
    child_now =
        winner_told children id (child_row id) (λ d v. refl) (λ d v. text_itself id) (λ d e v w h. less_of_key id _ _ h) u is.tables.kept (function_after (get text_cmp (functions_planned p.children) id) (lookup (is_key (text_cmp id)) a.child_values))
        (λ d.
        is.rows d children id
        ∙ ap (λ r. planned_row p r d children id) (row_stored context a o d children id)
        ∙ changed_made (child_row id d) (get text_cmp (functions_planned p.children) id) (value_in a.child_values d id) d
        ∙ ap (option_map (child_row id d)) (changed_held (get text_cmp (functions_planned p.children) id) (lookup (is_key (text_cmp id)) a.child_values) d))

    member_before : winner old.rows members id ≡ option_map (λ e. member_row id e.0 e.1) (first_in (lookup (is_key (text_cmp id)) a.member_values))
    member_before =
        winner_told members id (member_row id) (λ d v. refl) (λ d v. text_itself id) (λ d e v w h. less_of_key id _ _ h) old kept (lookup (is_key (text_cmp id)) a.member_values) (λ d. row_stored context a o d members id)

    member_now : winner u.rows members id ≡ option_map (λ e. member_row id e.0 e.1) (first_in (function_after (get text_cmp (functions_planned p.members) id) (lookup (is_key (text_cmp id)) a.member_values)))
    member_now =
        winner_told members id (member_row id) (λ d v. refl) (λ d v. text_itself id) (λ d e v w h. less_of_key id _ _ h) u is.tables.kept (function_after (get text_cmp (functions_planned p.members) id) (lookup (is_key (text_cmp id)) a.member_values))
        (λ d.
        is.rows d members id
        ∙ ap (λ r. planned_row p r d members id) (row_stored context a o d members id)
        ∙ changed_made (member_row id d) (get text_cmp (functions_planned p.members) id) (value_in a.member_values d id) d
        ∙ ap (option_map (member_row id d)) (changed_held (get text_cmp (functions_planned p.members) id) (lookup (is_key (text_cmp id)) a.member_values) d))

  -- what is told of first values is told of winners
  pub children_touched : (ids : List Bytes) → ((k : Bytes) → (among text_cmp ids k ≡ true) ↔ ¬ (first_in (function_after (get text_cmp (functions_planned p.children) k) (lookup (is_key (text_cmp k)) a.child_values)) ≡ first_in (lookup (is_key (text_cmp k)) a.child_values)))
      → AreTouched ids old u
  children_touched ids told id = (
    (λ there same.
        (told id).0 there
        (same_made children id (child_row id) (λ d v. refl) (λ d v. text_itself id) (λ d e v w h. less_of_key id _ _ h) (λ r. (r.dot, spec_of r.entry)) (λ d v. refl) _ _ (sym (child_now id) ∙ same ∙ child_before id))),
    (λ differs. (told id).1 (λ same. differs (child_now id ∙ ap (option_map (λ e. child_row id e.0 e.1)) same ∙ sym (child_before id)))),
  )

  open_before : (m : Bytes) → opens (winner old.rows members m) ≡ first_has (λ info. is_open info.status) (first_in (lookup (is_key (text_cmp m)) a.member_values))
  open_before m = ap opens (member_before m) ∙ opens_made m _

  open_now : (m : Bytes) → opens (winner u.rows members m) ≡ first_has (λ info. is_open info.status) (first_in (function_after (get text_cmp (functions_planned p.members) m) (lookup (is_key (text_cmp m)) a.member_values)))
  open_now m = ap opens (member_now m) ∙ opens_made m _

  pub members_touched : (r : Bool) → (IsTrue r ↔ ¬ ((k : Bytes) → first_has (λ info. is_open info.status) (first_in (function_after (get text_cmp (functions_planned p.members) k) (lookup (is_key (text_cmp k)) a.member_values))) ≡ first_has (λ info. is_open info.status) (first_in (lookup (is_key (text_cmp k)) a.member_values))))
      → IsTrue r ↔ MembersDiffer old u
  members_touched r told = (
    (λ yes same. told.0 yes (λ k. sym (open_now k) ∙ eligible_told u.rows old.rows same k ∙ open_before k)),
    (λ differ. told.1 (λ same. differ (eligible_same u.rows old.rows (λ m. open_now m ∙ same m ∙ sym (open_before m))))),
  )

  -- what is lent of the first value is the winner
  pub child_told : (id : Bytes) (r : Option (Dot × Bor ChildSpec)) → option_map {U = Dot × ChildSpec} (λ q. (q.0, q.1.now)) r ≡ first_in (function_after (get text_cmp (functions_planned p.children) id) (lookup (is_key (text_cmp id)) a.child_values))
      → option_map (λ q. child_row id q.0 q.1.now) r ≡ winner u.rows children id
  child_told id r is = shown child_row id r ∙ ap (option_map (λ e. child_row id e.0 e.1)) is ∙ sym (child_now id)
