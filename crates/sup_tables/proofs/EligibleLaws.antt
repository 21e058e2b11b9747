-- Which members are eligible, name by name.
use Rattle.std.specs.Prelude.{◌≡◌, Bool, true, false, ◌&&◌, ◌||◌, cond, List, [], ◌∷◌, map, filter, filter_map, Option, Some, None, slice_get, refl}
use Rattle.std.specs.declared.cmp.Ordering.TheVariants.{Less}
use Rattle.std.specs.Ordering.{eq_by_cmp}
use Rattle.std.specs.List.{AllByRecursion, cons_option}
use Rattle.std.specs.List.Sorted.{IsStrictlySortedBy}
use Rattle.std.proofs.Common.{sym, ap, ◌∙◌, subst}
use Rattle.std.proofs.Math.Bool.{and-false}
use Rattle.std.proofs.lemmas.Bool.{or_left, or_right}
use Rattle.sup_specs.specs.Values.{Bytes, text_cmp}
use Rattle.sup_specs.specs.OrderLaws.{text_total, text_tie}
use Rattle.sup_specs.specs.Rising.{among}
use Rattle.sup_specs.proofs.RisingLaws.{among-rising, rising_same, rising_rises}
use Rattle.sup_tables.specs.declared.row.Row.{Row}
use Rattle.sup_tables.specs.Rows.{members, is_at, is_in, key_of, info_of}
use Rattle.sup_tables.specs.Readers.{winner, keys, is_open, eligible}
use Rattle.sup_tables.proofs.AddLaws.{and-first, and-second}
use Rattle.sup_tables.proofs.OrderedRows.{rising_already}
use Rattle.sup_tables.proofs.PointLaws.{same_text}

-- there, and open
abbrev pub opens : Option Row → Bool
opens None = false
opens (Some won) = is_open (info_of won.entry).status

abbrev Below : Bytes → List Bytes → Type 0
Below k ks = AllByRecursion (λ l. text_cmp k l ≡ Less) ks

absorbed : (a w : Bool) → (w ≡ true → a ≡ true) → (a && w) ≡ w
absorbed a true h = ap (λ b. b && true) (h refl)
absorbed a false h = and-false a

both_parts : (e a w : Bool) → ((e && w) || (a && w)) ≡ ((e || a) && w)
both_parts true true true = refl
both_parts true false true = refl
both_parts true true false = refl
both_parts true false false = refl
both_parts false a w = refl

and_true : (b : Bool) → (b && true) ≡ b
and_true true = refl
and_true false = refl

module _ (rows : List Row) where
  -- a winner is of its key
  of_key : (qs : List Row) (k : Bytes) (r : Row) → slice_get (filter (is_at members k) qs) 0 ≡ Some r → key_of r.entry ≡ k
  of_key [] k r e = absurd cc
  of_key (q ∷ qs) k r e =
      elim (is_at members k q) as (λ b. is_at members k q ≡ b → slice_get (cond b (q ∷ filter (is_at members k) qs) (filter (is_at members k) qs)) 0 ≡ Some r → key_of r.entry ≡ k) [
        | true ↦ λ h f. let same : q ≡ r = cc in ap (λ x. key_of x.entry) (sym same) ∙ sym (same_text k (key_of q.entry) (and-second (is_in members q) _ h))
        | false ↦ λ h f. of_key qs k r f
      ] refl e

  later : (k : Bytes) (q : Row) (qs : List Row) (b : Bool) → among text_cmp (map (λ x. key_of x.entry) qs) k ≡ true → among text_cmp (map (λ x. key_of x.entry) (cond b (q ∷ qs) qs)) k ≡ true
  later k q qs true h = or_right _ _ h
  later k q qs false h = h

  -- a member that has a winner is among the keys
  there : (qs : List Row) (k : Bytes) (r : Row) → slice_get (filter (is_at members k) qs) 0 ≡ Some r → among text_cmp (map (λ x. key_of x.entry) (filter (is_in members) qs)) k ≡ true
  there [] k r e = absurd cc
  there (q ∷ qs) k r e =
      elim (is_at members k q) as (λ b. is_at members k q ≡ b → slice_get (cond b (q ∷ filter (is_at members k) qs) (filter (is_at members k) qs)) 0 ≡ Some r → among text_cmp (map (λ x. key_of x.entry) (filter (is_in members) (q ∷ qs))) k ≡ true) [
        | true ↦ λ h f. subst (λ b. among text_cmp (map (λ x. key_of x.entry) (cond b (q ∷ filter (is_in members) qs) (filter (is_in members) qs))) k ≡ true) (sym (and-first (is_in members q) _ h)) (or_left _ _ (and-second (is_in members q) _ h))
        | false ↦ λ h f. later k q (filter (is_in members) qs) (is_in members q) (there qs k r f)
      ] refl e

  open_there : (k : Bytes) (o : Option Row) → winner rows members k ≡ o → opens o ≡ true → among text_cmp (keys rows members) k ≡ true
  open_there k None e h = absurd cc
  open_there k (Some r) e h = among-rising text_cmp text_total (map (λ x. key_of x.entry) (filter (is_in members) rows)) k ∙ there rows k r e

  -- the names of those of some rows that are open
  abbrev names : List Row → List Bytes
  names rs = map (λ r. key_of r.entry) (filter (λ r. is_open (info_of r.entry).status) rs)

  -- the names of the open ones among some keys
  abbrev open_at : List Bytes → List Bytes
  open_at ks = names (filter_map (winner rows members) ks)

  one_row : (m k : Bytes) (r : Row) → key_of r.entry ≡ k → (rest : List Row) (b : Bool) → among text_cmp (map (λ x. key_of x.entry) (cond b (r ∷ filter (λ x. is_open (info_of x.entry).status) rest) (filter (λ x. is_open (info_of x.entry).status) rest))) m ≡ ((eq_by_cmp text_cmp m k && b) || among text_cmp (names rest) m)
  one_row m k r is rest true = ap (λ b. b || among text_cmp (names rest) m) (ap (eq_by_cmp text_cmp m) is ∙ sym (and_true (eq_by_cmp text_cmp m k)))
  one_row m k r is rest false = ap (λ b. b || among text_cmp (names rest) m) (sym (and-false (eq_by_cmp text_cmp m k)))

  one_key : (m k : Bytes) (rest : List Row) (o : Option Row) → winner rows members k ≡ o → among text_cmp (names (cons_option o rest)) m ≡ ((eq_by_cmp text_cmp m k && opens o) || among text_cmp (names rest) m)
  one_key m k rest None e = ap (λ b. b || among text_cmp (names rest) m) (sym (and-false (eq_by_cmp text_cmp m k)))
  one_key m k rest (Some r) e = one_row m k r (of_key rows k r e) rest (is_open (info_of r.entry).status)

  at_name : (m k : Bytes) (b : Bool) → eq_by_cmp text_cmp m k ≡ b → (b && opens (winner rows members k)) ≡ (b && opens (winner rows members m))
  at_name m k true e = ap (λ l. opens (winner rows members l)) (sym (same_text m k e))
  at_name m k false e = refl

  open_among : (m : Bytes) (ks : List Bytes) → among text_cmp (open_at ks) m ≡ (among text_cmp ks m && opens (winner rows members m))
  open_among m [] = refl
  open_among m (k ∷ ks) =
      one_key m k (filter_map (winner rows members) ks) (winner rows members k) refl
      ∙ (λ i. at_name m k (eq_by_cmp text_cmp m k) refl i || open_among m ks i)
      ∙ both_parts (eq_by_cmp text_cmp m k) (among text_cmp ks m) (opens (winner rows members m))

  -- exactly the open winners are eligible
  is_eligible : (m : Bytes) → among text_cmp (eligible rows) m ≡ opens (winner rows members m)
  is_eligible m = open_among m (keys rows members) ∙ absorbed (among text_cmp (keys rows members) m) (opens (winner rows members m)) (open_there m (winner rows members m) refl)

  below_row : (k l : Bytes) → text_cmp k l ≡ Less → (r : Row) → key_of r.entry ≡ l → (rest : List Row) → Below k (names rest) → (b : Bool) → Below k (map (λ x. key_of x.entry) (cond b (r ∷ filter (λ x. is_open (info_of x.entry).status) rest) (filter (λ x. is_open (info_of x.entry).status) rest)))
  below_row k l less r is rest h true = (ap (text_cmp k) is ∙ less, h)
  below_row k l less r is rest h false = h

  below_key : (k l : Bytes) → text_cmp k l ≡ Less → (rest : List Row) → Below k (names rest) → (o : Option Row) → winner rows members l ≡ o → Below k (names (cons_option o rest))
  below_key k l less rest h None e = h
  below_key k l less rest h (Some r) e = below_row k l less r (of_key rows l r e) rest h (is_open (info_of r.entry).status)

  below : (k : Bytes) (ks : List Bytes) → Below k ks → Below k (open_at ks)
  below k [] a = tt
  below k (l ∷ ls) a = below_key k l a.0 (filter_map (winner rows members) ls) (below k ls a.1) (winner rows members l) refl

  rise_row : (r : Row) (rest : List Row) → Below (key_of r.entry) (names rest) → IsStrictlySortedBy text_cmp (names rest) → (b : Bool) → IsStrictlySortedBy text_cmp (map (λ x. key_of x.entry) (cond b (r ∷ filter (λ x. is_open (info_of x.entry).status) rest) (filter (λ x. is_open (info_of x.entry).status) rest)))
  unfolding IsStrictlySortedBy
  rise_row r rest a h true = (a, h)
  rise_row r rest a h false = h

  rise_key : (k : Bytes) (rest : List Row) → Below k (names rest) → IsStrictlySortedBy text_cmp (names rest) → (o : Option Row) → winner rows members k ≡ o → IsStrictlySortedBy text_cmp (names (cons_option o rest))
  rise_key k rest a h None e = h
  rise_key k rest a h (Some r) e = rise_row r rest (subst (λ l. Below l (names rest)) (sym (of_key rows k r e)) a) h (is_open (info_of r.entry).status)

  rise : (ks : List Bytes) → IsStrictlySortedBy text_cmp ks → IsStrictlySortedBy text_cmp (open_at ks)
  unfolding IsStrictlySortedBy
  rise [] s = tt
  rise (k ∷ ks) s = rise_key k (filter_map (winner rows members) ks) (below k ks s.0) (rise ks s.1) (winner rows members k) refl

  -- they rise by name
  pub eligible_rise : IsStrictlySortedBy text_cmp (eligible rows)
  eligible_rise = rise (keys rows members) (rising_rises text_cmp text_total (map (λ x. key_of x.entry) (filter (is_in members) rows)))

-- equal lists of eligible members are of the same open winners
pub eligible_told : (rows others : List Row) → eligible rows ≡ eligible others → (m : Bytes) → opens (winner rows members m) ≡ opens (winner others members m)
eligible_told rows others same m = sym (is_eligible rows m) ∙ ap (λ es. among text_cmp es m) same ∙ is_eligible others m

-- and the same open winners make equal lists
pub eligible_same : (rows others : List Row) → ((m : Bytes) → opens (winner rows members m) ≡ opens (winner others members m)) → eligible rows ≡ eligible others
eligible_same rows others same =
    sym (rising_already text_cmp (eligible rows) (eligible_rise rows))
    ∙ rising_same text_cmp text_total text_tie (eligible rows) (eligible others) (λ m. is_eligible rows m ∙ same m ∙ sym (is_eligible others m))
    ∙ rising_already text_cmp (eligible others) (eligible_rise others)
