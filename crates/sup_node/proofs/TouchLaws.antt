-- What is wanted with a delta is what was wanted, with what it touches replaced.
use Rattle.std.specs.Prelude.{◌≡◌, Bool, true, false, not, ◌&&◌, ◌||◌, cond, List, [], ◌∷◌, ◌++◌, map, flat_map, filter, filter_map, Option, Some, None, is_some, refl}
use Rattle.std.specs.List.{AllByRecursion, list_any, list_all, cons_option}
use Rattle.std.specs.List.Sorted.{IsStrictlySortedBy}
use Rattle.std.specs.Str.{bytes_eq}
use Rattle.std.specs.Ordering.{eq_by_cmp}
use Rattle.std.specs.Cmp.Lexicographic.{texts_ties}
use Rattle.std.specs.declared.cmp.Ordering.TheVariants.{Less}
use Rattle.std.proofs.Common.{sym, ap, ◌∙◌, subst}
use Rattle.std.proofs.Math.Bool.{and-false}
use Rattle.std.proofs.lemmas.Bool.{or_left, or_right}
use Rattle.std.proofs.lemmas.List.Folds.{list_any-append}
use mathlib.Core.Bool.{true≢false}
use Rattle.sup_specs.specs.Values.{Bytes, text_cmp}
use Rattle.sup_specs.specs.OrderLaws.{text_total, text_tie}
use Rattle.sup_specs.specs.Rising.{among}
use Rattle.sup_specs.proofs.RisingLaws.{rising_same, rising_rises}
use Rattle.sup_causal.specs.Dots.{dot_eq}
use Rattle.sup_tables.specs.declared.row.Row.{Row}
use Rattle.sup_tables.specs.Rows.{children, is_in, key_of}
use Rattle.sup_tables.specs.Readers.{winner, keys, eligible}
use Rattle.sup_tables.specs.States.{State}
use Rattle.sup_tables.specs.Planned.{AreTouched}
use Rattle.sup_tables.proofs.AddLaws.{and-first, and-second}
use Rattle.sup_tables.proofs.EligibleLaws.{eligible_told, eligible_same}
use Rattle.sup_tables.proofs.OrderedRows.{rising_already}
use Rattle.sup_tables.proofs.PointLaws.{same_text}
use Rattle.sup_placement.specs.Place.{Weigher, place}
use Rattle.sup_local_sup.specs.declared.wanted.Wanted.{Wanted}
use Rattle.sup_local_sup.specs.declared.change.Change.{Change}
use Rattle.sup_local_sup.specs.declared.leaving.Leaving.{Leaving}
use Rattle.sup_local_sup.specs.declared.leaving.Leaving.TheVariants.{Nobody, Finished, GaveUp}
use Rattle.sup_local_sup.specs.Keeping.{KeptChild, is_for, is_wanted, is_kept}
use Rattle.sup_local_sup.proofs.CountedLaws.{all-append, all-filter}
use Rattle.sup_local_sup.proofs.KeepingLaws.{exact_from_eq}
use Rattle.sup_local_sup.specs.Changing.{now_list, news, is_named, by_id, IsOwn, AreChanges, IsReplaced, left_of, leaving_of}
use Rattle.sup_replica.specs.Nodes.{is_placed_on, wanted_of, wanted_row, wanted_at}
use Rattle.sup_node.specs.Placed.{keeps, wanted_by, wanted_under, change_of, ListsLeaving, ended_of}
use Rattle.sup_replica.proofs.WantedLaws.{first_of}
use Rattle.sup_node.proofs.PlacingLaws.{key_there}

-- ---- lists

all_from : {X : Type 0} (p : X → Bool) (xs : List X) → list_all p xs ≡ true → AllByRecursion (λ x. p x ≡ true) xs
all_from p [] e = tt
all_from p (x ∷ xs) e = (and-first (p x) _ e, all_from p xs (and-second (p x) _ e))

all_with : {X : Type 0} (P Q : X → Type 0) → ((x : X) → P x → Q x) → (xs : List X) → AllByRecursion P xs → AllByRecursion Q xs
all_with P Q f [] a = tt
all_with P Q f (x ∷ xs) a = (f x a.0, all_with P Q f xs a.1)

-- one of a list has the property
pick : {X Q : Type 0} (P : X → Type 0) (p : X → Bool) (xs : List X) → AllByRecursion P xs → list_any p xs ≡ true → ((x : X) → P x → p x ≡ true → Q) → Q
pick P p [] a e f = absurd (true≢false (sym e))
pick {X} {Q} P p (x ∷ xs) a e f = at (p x) refl e (λ h. pick P p xs a.1 h f)
  where
    at : (b : Bool) → p x ≡ b → (b || list_any p xs) ≡ true → (list_any p xs ≡ true → Q) → Q
    at true h g later = f x a.0 h
    at false h g later = later g

none_not : {X : Type 0} (p : X → Bool) (xs : List X) → list_all p xs ≡ true → list_any (λ x. not (p x)) xs ≡ false
none_not p [] e = refl
none_not p (x ∷ xs) e = (λ i. not (and-first (p x) _ e i) || none_not p xs (and-second (p x) _ e) i)

kept_any : {X : Type 0} (p q : X → Bool) → ((x : X) → p x ≡ true → q x ≡ true) → (xs : List X) → list_any p xs ≡ true → list_any p (filter q xs) ≡ true
kept_any p q imp [] e = e
kept_any p q imp (x ∷ xs) e = at (p x) (q x) refl refl e (kept_any p q imp xs)
  where
    at : (b c : Bool) → p x ≡ b → q x ≡ c → (b || list_any p xs) ≡ true → (list_any p xs ≡ true → list_any p (filter q xs) ≡ true) → list_any p (cond c (x ∷ filter q xs) (filter q xs)) ≡ true
    at true true h g f later = or_left _ _ h
    at true false h g f later = absurd (true≢false (sym (imp x h) ∙ g))
    at false true h g f later = or_right (p x) _ (later f)
    at false false h g f later = later f

bool_stable : (a b : Bool) → ¬ ¬ (a ≡ b) → a ≡ b
bool_stable true true h = refl
bool_stable false false h = refl
bool_stable true false h = absurd (h true≢false)
bool_stable false true h = absurd (h (λ e. true≢false (sym e)))

-- ---- sets of texts

sorted_filter : (p : Bytes → Bool) (xs : List Bytes) → IsStrictlySortedBy text_cmp xs → IsStrictlySortedBy text_cmp (filter p xs)
unfolding IsStrictlySortedBy
sorted_filter p [] s = tt
sorted_filter p (x ∷ xs) s = at (p x) (sorted_filter p xs s.1)
  where
    at : (b : Bool) → IsStrictlySortedBy text_cmp (filter p xs) → IsStrictlySortedBy text_cmp (cond b (x ∷ filter p xs) (filter p xs))
    at true h = (all-filter (λ y. text_cmp x y ≡ Less) p xs s.0, h)
    at false h = h

among_filter : (p : Bytes → Bool) (xs : List Bytes) (q : Bytes) → among text_cmp (filter p xs) q ≡ (among text_cmp xs q && p q)
among_filter p [] q = refl
among_filter p (x ∷ xs) q = at (eq_by_cmp text_cmp q x) (p x) refl refl (among_filter p xs q)
  where
    at : (b c : Bool) → eq_by_cmp text_cmp q x ≡ b → p x ≡ c → among text_cmp (filter p xs) q ≡ (among text_cmp xs q && p q) → among text_cmp (cond c (x ∷ filter p xs) (filter p xs)) q ≡ ((b || among text_cmp xs q) && p q)
    at true true e f h = ap (λ b. b || among text_cmp (filter p xs) q) e ∙ sym (ap p (same_text q x e) ∙ f)
    at true false e f h = h ∙ ap (λ b. among text_cmp xs q && b) (ap p (same_text q x e) ∙ f) ∙ and-false (among text_cmp xs q) ∙ sym (ap p (same_text q x e) ∙ f)
    at false true e f h = ap (λ b. b || among text_cmp (filter p xs) q) e ∙ h
    at false false e f h = h

same_set : (xs ys : List Bytes) → IsStrictlySortedBy text_cmp xs → IsStrictlySortedBy text_cmp ys → ((q : Bytes) → among text_cmp xs q ≡ among text_cmp ys q) → xs ≡ ys
same_set xs ys a b same = sym (rising_already text_cmp xs a) ∙ rising_same text_cmp text_total text_tie xs ys same ∙ rising_already text_cmp ys b

-- ---- what is wanted, id by id

module _ (g : Weigher) (me : Bytes) (hosts : List Bytes) (rows : List Row) where
  abbrev under : Bytes → Option Wanted
  under k = wanted_under g me hosts rows k

  abbrev listed : List Bytes → List Wanted
  listed ks = flat_map (λ k. now_list (under k)) ks

  of_keys : (ks : List Bytes) → flat_map (wanted_row g me hosts) (filter_map (winner rows children) ks) ≡ listed ks
  of_keys [] = refl
  of_keys (k ∷ ks) = one (winner rows children k) (of_keys ks)
    where
      placed : (r : Row) (b : Bool) → flat_map (wanted_row g me hosts) (filter_map (winner rows children) ks) ≡ listed ks
          → (cond b (wanted_of r ∷ []) [] ++ flat_map (wanted_row g me hosts) (filter_map (winner rows children) ks)) ≡ now_list (cond b (Some (wanted_of r)) None) ++ listed ks
      placed r true h = ap (λ l. wanted_of r ∷ l) h
      placed r false h = h

      one : (o : Option Row) → flat_map (wanted_row g me hosts) (filter_map (winner rows children) ks) ≡ listed ks
          → flat_map (wanted_row g me hosts) (cons_option o (filter_map (winner rows children) ks)) ≡ now_list (wanted_by g me hosts o) ++ listed ks
      one None h = h
      one (Some r) h = placed r (is_placed_on me (place g hosts (key_of r.entry))) h

  -- what is wanted under an id is of that id
  own_by : (k : Bytes) (o : Option Row) → winner rows children k ≡ o → (w : Wanted) → wanted_by g me hosts o ≡ Some w → w.id ≡ k
  own_by k None e w h = absurd cc
  own_by k (Some r) e w h = at (is_placed_on me (place g hosts (key_of r.entry))) h
    where
      at : (b : Bool) → cond b (Some (wanted_of r)) None ≡ Some w → w.id ≡ k
      at true f = let same : wanted_of r ≡ w = cc in ap (λ (v : Wanted). v.id) (sym same) ∙ first_of rows children k r e
      at false f = absurd cc

  own_id : (k : Bytes) (w : Wanted) → under k ≡ Some w → w.id ≡ k
  own_id k w h = own_by k (winner rows children k) refl w h

  there_by : (k : Bytes) (o : Option Row) → winner rows children k ≡ o → (w : Wanted) → wanted_by g me hosts o ≡ Some w → among text_cmp (keys rows children) k ≡ true
  there_by k None e w h = absurd cc
  there_by k (Some r) e w h = key_there rows children k r e

  each_now : (k : Bytes) (o : Option Wanted) → under k ≡ o → AllByRecursion (λ (w : Wanted). under w.id ≡ Some w) (now_list o)
  each_now k None e = tt
  each_now k (Some w) e = (ap under (own_id k w e) ∙ e, tt)

  each : (ks : List Bytes) → AllByRecursion (λ (w : Wanted). under w.id ≡ Some w) (listed ks)
  each [] = tt
  each (k ∷ ks) = all-append (λ (w : Wanted). under w.id ≡ Some w) (now_list (under k)) (listed ks) (each_now k (under k) refl) (each ks)

  has_any : (p : Wanted → Bool) (id : Bytes) (w : Wanted) → under id ≡ Some w → p w ≡ true → (ks : List Bytes) → among text_cmp ks id ≡ true → list_any p (listed ks) ≡ true
  has_any p id w u h [] a = absurd (true≢false (sym a))
  has_any p id w u h (k ∷ ks) a = list_any-append p (now_list (under k)) (listed ks) ∙ at (eq_by_cmp text_cmp id k) refl a (has_any p id w u h ks)
    where
      at : (b : Bool) → eq_by_cmp text_cmp id k ≡ b → (b || among text_cmp ks id) ≡ true → (among text_cmp ks id ≡ true → list_any p (listed ks) ≡ true) → (list_any p (now_list (under k)) || list_any p (listed ks)) ≡ true
      at true e f later = or_left _ _ (ap (λ o. list_any p (now_list o)) (ap under (sym (same_text id k e)) ∙ u) ∙ or_left _ _ h)
      at false e f later = or_right _ _ (later f)

  filtered : (p : Bytes → Bool) (ks : List Bytes) → filter (λ (w : Wanted). p w.id) (listed ks) ≡ listed (filter p ks)
  filtered p [] = refl
  filtered p (k ∷ ks) = one (under k) (own_id k) ∙ ap (λ l. cond (p k) (now_list (under k)) [] ++ l) (filtered p ks) ∙ turned (p k)
    where
      some : (w : Wanted) (b : Bool) → cond b (w ∷ filter (λ (w : Wanted). p w.id) (listed ks)) (filter (λ (w : Wanted). p w.id) (listed ks)) ≡ (cond b (w ∷ []) [] ++ filter (λ (w : Wanted). p w.id) (listed ks))
      some w true = refl
      some w false = refl

      none : (b : Bool) → filter (λ (w : Wanted). p w.id) (listed ks) ≡ (cond b (now_list None) [] ++ filter (λ (w : Wanted). p w.id) (listed ks))
      none true = refl
      none false = refl

      one : (o : Option Wanted) → ((w : Wanted) → o ≡ Some w → w.id ≡ k) → filter (λ (w : Wanted). p w.id) (now_list o ++ listed ks) ≡ (cond (p k) (now_list o) [] ++ filter (λ (w : Wanted). p w.id) (listed ks))
      one None own = none (p k)
      one (Some w) own = ap (λ x. cond (p x) (w ∷ filter (λ (w : Wanted). p w.id) (listed ks)) (filter (λ (w : Wanted). p w.id) (listed ks))) (own w refl) ∙ some w (p k)

      turned : (b : Bool) → (cond b (now_list (under k)) [] ++ listed (filter p ks)) ≡ listed (cond b (k ∷ filter p ks) (filter p ks))
      turned true = refl
      turned false = refl

  abbrev has : Bytes → Bool
  has k = is_some (under k)

  valued : (ks : List Bytes) → listed ks ≡ listed (filter has ks)
  valued [] = refl
  valued (k ∷ ks) = at (under k) refl (valued ks)
    where
      at : (o : Option Wanted) → under k ≡ o → listed ks ≡ listed (filter has ks) → (now_list (under k) ++ listed ks) ≡ listed (cond (is_some o) (k ∷ filter has ks) (filter has ks))
      at None e h = ap (λ o. now_list o ++ listed ks) e ∙ h
      at (Some w) e h = ap (λ l. now_list (under k) ++ l) h

  news_listed : (ids : List Bytes) → news (map (change_of g me hosts rows) ids) ≡ listed ids
  news_listed [] = refl
  news_listed (k ∷ ks) = ap (λ l. now_list (under k) ++ l) (news_listed ks)

  -- the changes' ids rise, and what is wanted under one is of it
  owns : (k : Bytes) (o : Option Wanted) → under k ≡ o → IsOwn (change_of g me hosts rows k) o
  owns k None e = tt
  owns k (Some w) e = own_id k w e

  all_own : (ids : List Bytes) → AllByRecursion (λ c. IsOwn c c.now) (map (change_of g me hosts rows) ids)
  all_own [] = tt
  all_own (k ∷ ks) = (owns k (under k) refl, all_own ks)

  below_changes : (k : Bytes) (ids : List Bytes) → AllByRecursion (λ l. text_cmp k l ≡ Less) ids → AllByRecursion (λ c. by_id (change_of g me hosts rows k) c ≡ Less) (map (change_of g me hosts rows) ids)
  below_changes k [] a = tt
  below_changes k (l ∷ ls) a = (a.0, below_changes k ls a.1)

  changes_rise : (ids : List Bytes) → IsStrictlySortedBy text_cmp ids → IsStrictlySortedBy by_id (map (change_of g me hosts rows) ids)
  unfolding IsStrictlySortedBy
  changes_rise [] s = tt
  changes_rise (k ∷ ks) s = (below_changes k ks s.0, changes_rise ks s.1)

  pub are_changes : (ids : List Bytes) → IsStrictlySortedBy text_cmp ids → AreChanges (map (change_of g me hosts rows) ids)
  are_changes ids s = record { rise = changes_rise ids s; own = all_own ids }

  named_is : (ids : List Bytes) (q : Bytes) → is_named (map (change_of g me hosts rows) ids) q ≡ among text_cmp ids q
  named_is [] q = refl
  named_is (k ∷ ks) q = (λ i. texts_ties q k i || named_is ks q i)

  narrow : (a n h : Bool) → (h ≡ true → a ≡ true) → ((a && n) && h) ≡ (n && h)
  narrow a n true f = ap (λ b. (b && n) && true) (f refl)
  narrow a n false f = and-false (a && n) ∙ sym (and-false n)

  there : (q : Bytes) → has q ≡ true → among text_cmp (keys rows children) q ≡ true
  there q e = at (under q) refl e
    where
      at : (o : Option Wanted) → under q ≡ o → is_some o ≡ true → among text_cmp (keys rows children) q ≡ true
      at None f h = absurd (true≢false (sym h))
      at (Some w) f h = there_by q (winner rows children q) refl w f

-- what is wanted, id by id
wanted_listed : (g : Weigher) (me : Bytes) (rows : List Row) → wanted_at g me rows ≡ listed g me (eligible rows) rows (keys rows children)
wanted_listed g me rows = of_keys g me (eligible rows) rows (keys rows children)

keys_rise : (rows : List Row) → IsStrictlySortedBy text_cmp (keys rows children)
keys_rise rows = rising_rises text_cmp text_total (map (λ r. key_of r.entry) (filter (is_in children) rows))

pub eligible_stable : (rows others : List Row) → ¬ ¬ (eligible rows ≡ eligible others) → eligible rows ≡ eligible others
eligible_stable rows others h = eligible_same rows others (λ m. bool_stable _ _ (λ f. h (λ e. f (eligible_told rows others e m))))

-- ---- the touched ids replaced

-- whose run has ended is among them
abbrev IsAmong : List Bytes → Option Bytes → Type 0
IsAmong ids None = Unit {0}
IsAmong ids (Some id) = among text_cmp ids id ≡ true

pub reached : (ids : List Bytes) (leaving : Leaving) → ListsLeaving ids leaving → IsAmong ids (ended_of leaving)
reached ids Nobody h = tt
reached ids (Finished id) h = h
reached ids (GaveUp id) h = absurd h

pub leaving_back : (ids : List Bytes) (leaving : Leaving) → ListsLeaving ids leaving → leaving_of (ended_of leaving) ≡ leaving
leaving_back ids Nobody h = refl
leaving_back ids (Finished id) h = refl
leaving_back ids (GaveUp id) h = absurd h

module _ (g : Weigher) (me : Bytes) (old new : State) (ids : List Bytes) (rise : IsStrictlySortedBy text_cmp ids) (exact : AreTouched ids old new) (same : eligible new.rows ≡ eligible old.rows) where
  abbrev changes : List Change
  changes = map (change_of g me (eligible new.rows) new.rows) ids

  -- an id that isn't touched
  untouched : (id : Bytes) → among text_cmp ids id ≡ false → (b : Bool) → (winner new.rows children id ≡ winner old.rows children id → b ≡ true) → b ≡ true
  untouched id out true h = refl
  untouched id out false h = absurd (true≢false (sym ((exact id).1 (λ e. true≢false (sym (h e)))) ∙ out))

  later : (id : Bytes) (w : Wanted) → winner new.rows children id ≡ winner old.rows children id → wanted_under g me (eligible old.rows) old.rows id ≡ Some w → wanted_under g me (eligible new.rows) new.rows id ≡ Some w
  later id w e h = (λ i. wanted_by g me (same i) (e i)) ∙ h

  earlier : (id : Bytes) (w : Wanted) → winner new.rows children id ≡ winner old.rows children id → wanted_under g me (eligible new.rows) new.rows id ≡ Some w → wanted_under g me (eligible old.rows) old.rows id ≡ Some w
  earlier id w e h = sym (λ i. wanted_by g me (same i) (e i)) ∙ h

  unnamed : (q : Bytes) → is_named changes q ≡ false → among text_cmp ids q ≡ false
  unnamed q e = sym (named_is g me (eligible new.rows) new.rows ids q) ∙ e

  is_there : (id : Bytes) (w : Wanted) → wanted_under g me (eligible new.rows) new.rows id ≡ Some w → (p : Wanted → Bool) → p w ≡ true → list_any p (wanted_at g me new.rows) ≡ true
  is_there id w h p e =
      ap (list_any p) (wanted_listed g me new.rows)
      ∙ has_any g me (eligible new.rows) new.rows p id w h e (keys new.rows children) (there_by g me (eligible new.rows) new.rows id (winner new.rows children id) refl w h)

  was_there : (id : Bytes) (w : Wanted) → wanted_under g me (eligible old.rows) old.rows id ≡ Some w → (p : Wanted → Bool) → p w ≡ true → list_any p (wanted_at g me old.rows) ≡ true
  was_there id w h p e =
      ap (list_any p) (wanted_listed g me old.rows)
      ∙ has_any g me (eligible old.rows) old.rows p id w h e (keys old.rows children) (there_by g me (eligible old.rows) old.rows id (winner old.rows children id) refl w h)

  named : filter (λ (w : Wanted). is_named changes w.id) (wanted_at g me new.rows) ≡ news changes
  named =
      let hosts = eligible new.rows in
      let ks = keys new.rows children in
      ap (filter (λ (w : Wanted). is_named changes w.id)) (wanted_listed g me new.rows)
      ∙ filtered g me hosts new.rows (is_named changes) ks
      ∙ valued g me hosts new.rows (filter (is_named changes) ks)
      ∙ ap (listed g me hosts new.rows)
      (same_set (filter (has g me hosts new.rows) (filter (is_named changes) ks)) (filter (has g me hosts new.rows) ids)
      (sorted_filter (has g me hosts new.rows) (filter (is_named changes) ks) (sorted_filter (is_named changes) ks (keys_rise new.rows)))
      (sorted_filter (has g me hosts new.rows) ids rise)
      (λ q.
      among_filter (has g me hosts new.rows) (filter (is_named changes) ks) q
      ∙ ap (λ b. b && has g me hosts new.rows q) (among_filter (is_named changes) ks q)
      ∙ narrow g me hosts new.rows (among text_cmp ks q) (is_named changes q) (has g me hosts new.rows q) (there g me hosts new.rows q)
      ∙ ap (λ b. b && has g me hosts new.rows q) (named_is g me hosts new.rows ids q)
      ∙ sym (among_filter (has g me hosts new.rows) ids q)))
      ∙ sym (valued g me hosts new.rows ids)
      ∙ sym (news_listed g me hosts new.rows ids)

  module _ (kept : List KeptChild) (keeps_old : keeps kept (wanted_at g me old.rows) ≡ true) where
    stays_one : (k : KeptChild) → is_wanted (wanted_at g me old.rows) k ≡ true → is_named changes k.0 ≡ false → is_wanted (wanted_at g me new.rows) k ≡ true
    stays_one k e n =
        pick (λ (w : Wanted). wanted_under g me (eligible old.rows) old.rows w.id ≡ Some w) (λ w. is_for w k.0 k.1.dot) (listed g me (eligible old.rows) old.rows (keys old.rows children))
        (each g me (eligible old.rows) old.rows (keys old.rows children))
        (sym (ap (list_any (λ w. is_for w k.0 k.1.dot)) (wanted_listed g me old.rows)) ∙ e)
        (λ w u f.
        let id : k.0 ≡ w.id = exact_from_eq k.0 w.id (and-first (bytes_eq k.0 w.id) _ f) in
        untouched w.id (ap (among text_cmp ids) (sym id) ∙ unnamed k.0 n) (is_wanted (wanted_at g me new.rows) k)
        (λ same_winner. is_there w.id w (later w.id w same_winner u) (λ v. is_for v k.0 k.1.dot) f))

    all_kept : AllByRecursion (λ (k : KeptChild). is_wanted (wanted_at g me old.rows) k ≡ true) kept
    all_kept = all_from (is_wanted (wanted_at g me old.rows)) kept (and-first _ _ keeps_old)

    was_kept : (w : Wanted) → wanted_under g me (eligible old.rows) old.rows w.id ≡ Some w → is_kept kept w ≡ true
    was_kept w u = at (is_kept kept w) refl
      where
        at : (b : Bool) → is_kept kept w ≡ b → is_kept kept w ≡ true
        at true e = e
        at false e =
            absurd (true≢false (sym (was_there w.id w u (λ v. not (is_kept kept v)) (ap not e))
            ∙ none_not (is_kept kept) (wanted_at g me old.rows) (and-second (list_all (is_wanted (wanted_at g me old.rows)) kept) _ keeps_old)))

    is_left : (ended : Option Bytes) → IsAmong ids ended → (w : Wanted) → is_named changes w.id ≡ false → is_kept kept w ≡ true → is_kept (left_of kept ended) w ≡ true
    is_left None a w n e = e
    is_left (Some id) a w n e =
        kept_any (λ k. bytes_eq w.id k.0 && dot_eq w.dot k.1.dot) (λ k. not (bytes_eq id k.0))
        (λ k f. at k (exact_from_eq w.id k.0 (and-first (bytes_eq w.id k.0) _ f)) (bytes_eq id k.0) refl) kept e
      where
        at : (k : KeptChild) → w.id ≡ k.0 → (b : Bool) → bytes_eq id k.0 ≡ b → not (bytes_eq id k.0) ≡ true
        at k same_id true h = absurd (true≢false (sym a ∙ ap (among text_cmp ids) (exact_from_eq id k.0 h ∙ sym same_id) ∙ unnamed w.id n))
        at k same_id false h = ap not h

    only_one : (ended : Option Bytes) → IsAmong ids ended → (w : Wanted) → wanted_under g me (eligible new.rows) new.rows w.id ≡ Some w → is_named changes w.id ≡ false → is_kept (left_of kept ended) w ≡ true
    only_one ended a w u n = untouched w.id (unnamed w.id n) (is_kept (left_of kept ended) w) (λ e. is_left ended a w n (was_kept w (earlier w.id w e u)))

    stays : (ended : Option Bytes) → AllByRecursion (λ (k : KeptChild). is_named changes k.0 ≡ false → is_wanted (wanted_at g me new.rows) k ≡ true) (left_of kept ended)
    stays None = all_with _ _ stays_one kept all_kept
    stays (Some id) = all-filter _ (λ k. not (bytes_eq id k.0)) kept (all_with _ _ stays_one kept all_kept)

    -- what is wanted with the delta is what was kept, with the touched ids replaced
    pub is_replaced : (ended : Option Bytes) → IsAmong ids ended → IsReplaced (left_of kept ended) changes (wanted_at g me new.rows)
    is_replaced ended a = record {
      named = named;
      stays = stays ended;
      only =
          subst (AllByRecursion (λ (w : Wanted). is_named changes w.id ≡ false → is_kept (left_of kept ended) w ≡ true)) (sym (wanted_listed g me new.rows))
          (all_with (λ (w : Wanted). wanted_under g me (eligible new.rows) new.rows w.id ≡ Some w) (λ (w : Wanted). is_named changes w.id ≡ false → is_kept (left_of kept ended) w ≡ true) (only_one ended a) _
          (each g me (eligible new.rows) new.rows (keys new.rows children)));
    }
