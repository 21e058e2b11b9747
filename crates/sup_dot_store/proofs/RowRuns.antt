-- A rising list of rows, cut from its end into the runs of its keys.
use Rattle.std.specs.Prelude.{◌≡◌, ◌⊎◌, ◌-◌, Bool, true, false, not, cond, List, [], ◌∷◌, ◌++◌, length, reverse, slice_get, Some, refl}
use Rattle.std.proofs.Common.{sym, ap, ◌∙◌, subst, inl, inr, append_assoc, arith}
use Rattle.std.proofs.lemmas.List.{append-nil, length-append, reverse-append}
use Rattle.std.proofs.lemmas.Option.{same_Some, slice_get-get_or}
use Rattle.std.proofs.Math.Seq.{get_or-append_seam}
use Rattle.sup_specs.specs.Exact.{IsExact}
use Rattle.sup_dot_store.proofs.IndexLaws.{same}
use Rattle.std.specs.declared.cmp.Ordering.{Ordering}
use Rattle.std.specs.declared.cmp.Ordering.TheVariants.{Less, Equal, Greater}
use Rattle.std.specs.Ordering.{ordering_then, is_eq, match_ordering}
use Rattle.std.specs.Cmp.{IsTotalOrder}
use Rattle.std.proofs.lemmas.Cmp.{tied_itself}
use Rattle.std.specs.List.{AllByRecursion}
use Rattle.std.specs.List.Sorted.{IsStrictlySortedBy}
use Rattle.std.specs.Map.{keys_of, lookup}
use Rattle.std.specs.BTreeMap.{insert_entry}
use Rattle.std.proofs.lemmas.Bool.{not-false, not-true}
use Rattle.sup_causal.specs.declared.dot.Dot.{Dot}
use Rattle.sup_causal.specs.Dots.{dot_cmp}
use Rattle.sup_causal.specs.DotLaws.{dot_total}
use Rattle.sup_dot_store.specs.Places.{HasRow}
use Rattle.sup_dot_store.proofs.Rows.{none_everywhere}
use Rattle.sup_dot_store.specs.ByDot.{at_dot}
use Rattle.sup_dot_store.specs.declared.dot_fun.DotFun.{DotFun}
use Rattle.sup_dot_store.specs.RowLists.{rows_under, rows_of, row_cmp, EndsOffKey, HasValue, IsLastRun}

all_front : {X : Type 0} (P : X → Type 0) (xs ys : List X) → AllByRecursion P (xs ++ ys) → AllByRecursion P xs
all_front P [] ys h = tt
all_front P (x ∷ xs) ys h = (h.0, all_front P xs ys h.1)

all_back : {X : Type 0} (P : X → Type 0) (xs ys : List X) → AllByRecursion P (xs ++ ys) → AllByRecursion P ys
all_back P [] ys h = h
all_back P (x ∷ xs) ys h = all_back P xs ys h.1

all_both : {X : Type 0} (P Q R : X → Type 0) (xs : List X) → ((x : X) → P x → Q x → R x) → AllByRecursion P xs → AllByRecursion Q xs → AllByRecursion R xs
all_both P Q R [] both h k = tt
all_both P Q R (x ∷ xs) both h k = (both x h.0 k.0, all_both P Q R xs both h.1 k.1)

all_of : {X : Type 0} (P : X → Type 0) (xs : List X) → ((x : X) → P x) → AllByRecursion P xs
all_of P [] h = tt
all_of P (x ∷ xs) h = (h x, all_of P xs h)

rising_front : {X : Type 0} (cmp : X → X → Ordering) (xs ys : List X) → IsStrictlySortedBy cmp (xs ++ ys) → IsStrictlySortedBy cmp xs
unfolding IsStrictlySortedBy
rising_front cmp [] ys s = tt
rising_front cmp (x ∷ xs) ys s = (all_front (λ y. cmp x y ≡ Less) xs ys s.0, rising_front cmp xs ys s.1)

rising_back : {X : Type 0} (cmp : X → X → Ordering) (xs ys : List X) → IsStrictlySortedBy cmp (xs ++ ys) → IsStrictlySortedBy cmp ys
unfolding IsStrictlySortedBy
rising_back cmp [] ys s = s
rising_back cmp (x ∷ xs) ys s = rising_back cmp xs ys s.1

-- what a comparison by two orders says of the first
first_less : (r s : Ordering) → is_eq r ≡ false → ordering_then r s ≡ Less → r ≡ Less
first_less Less s apart less = refl
first_less Equal s apart less = absurd cc
first_less Greater s apart less = less

first_at_most : (r s : Ordering) → ordering_then r s ≡ Less → (r ≡ Less) ⊎ (r ≡ Equal)
first_at_most Less s less = inl refl
first_at_most Equal s less = inr refl
first_at_most Greater s less = absurd cc

past_equal : (r s : Ordering) → r ≡ Equal → ordering_then r s ≡ Less → s ≡ Less
past_equal r s e less = sym (ap (λ q. ordering_then q s) e) ∙ less

filled : {X : Type 0} {x : X} {xs : List X} → x ∷ xs ≡ [] → ⊥
filled e = cc

put_before : {K X : Type 0} (cmp : K → K → Ordering) (es : List (K × X)) (k : K) (v : X) → AllByRecursion (λ q. cmp k q ≡ Less) (keys_of es) → insert_entry cmp es k v ≡ (k, v) ∷ es
put_before cmp [] k v all = refl
put_before cmp (e ∷ es) k v all = ap (λ r. match_ordering r ((k, v) ∷ e ∷ es) ((e.0, v) ∷ es) (e ∷ insert_entry cmp es k v)) all.0

below_key : {K : Type 0} {cmp : K → K → Ordering} → IsTotalOrder cmp → (key k l : K) → (cmp k l ≡ Less) ⊎ (cmp k l ≡ Equal) → cmp l key ≡ Less → cmp k key ≡ Less
below_key total key k l (inl less) below = total.trans k l key less below
below_key total key k l (inr same) below = total.congr k l key same ∙ below

-- some rows are still in the list, the others under their keys
pub record IsCut {K V : Type 0} (cmp : K → K → Ordering) (all rows : List (K × Dot × V)) (es : List (K × DotFun V)) : Type 0 where
  pub cut : rows ++ rows_of es ≡ all
  pub rising : IsStrictlySortedBy (row_cmp cmp) rows
  pub below : AllByRecursion (λ r. AllByRecursion (λ k. cmp r.0 k ≡ Less) (keys_of es)) rows
  pub some : AllByRecursion HasValue es

module _ {K V : Type 0} {cmp : K → K → Ordering} (total : IsTotalOrder cmp) where
  -- one row more of a key
  dots_above : (key : K) (d : Dot) (v : V) (es : List (Dot × V)) → AllByRecursion (λ r. row_cmp cmp (key, d, v) r ≡ Less) (rows_under key es) → AllByRecursion (λ e. dot_cmp d e ≡ Less) (keys_of es)
  dots_above key d v [] all = tt
  dots_above key d v (e ∷ es) all = (past_equal _ _ (tied_itself total key) all.0, dots_above key d v es all.1)

  dots_rising : (key : K) (es : List (Dot × V)) → IsStrictlySortedBy (row_cmp cmp) (rows_under key es) → IsStrictlySortedBy dot_cmp (keys_of es)
  unfolding IsStrictlySortedBy
  dots_rising key [] s = tt
  dots_rising key (e ∷ es) s = (dots_above key e.0 e.1 es s.0, dots_rising key es s.1)

  -- the dots of a run rise
  pub run_rises : (key : K) (all rest : List (K × Dot × V)) (es : List (Dot × V)) → IsStrictlySortedBy (row_cmp cmp) all → rest ++ rows_under key es ≡ all → IsStrictlySortedBy dot_cmp (keys_of es)
  run_rises key all rest es rising cut =
      dots_rising key es (rising_back (row_cmp cmp) rest (rows_under key es) (subst (IsStrictlySortedBy (row_cmp cmp)) (sym cut) rising))

  -- the values of a run are met from the last
  pub row_more : (key : K) (d : Dot) (v : V) (all old new : List (K × Dot × V)) (met more : List (Dot × V))
      → old ++ rows_under key (reverse met) ≡ all → old ≡ new ++ (key, d, v) ∷ [] → more ≡ met ++ (d, v) ∷ []
      → (new ++ rows_under key (reverse more) ≡ all) × (reverse more ≡ [] → ⊥)
  row_more key d v all old new met more cut popped put =
      let first : reverse more ≡ (d, v) ∷ reverse met = ap reverse put ∙ reverse-append met ((d, v) ∷ []) in
      let whole : new ++ (key, d, v) ∷ rows_under key (reverse met) ≡ all =
      sym (append_assoc new ((key, d, v) ∷ []) (rows_under key (reverse met))) ∙ ap (λ rows. rows ++ rows_under key (reverse met)) (sym popped) ∙ cut in
      (ap (λ fs. new ++ rows_under key fs) first ∙ whole, λ none. filled (sym first ∙ none))

  -- rows before a run of the key that don't end in one of the key have lower keys
  all_below_key : (key : K) (rest : List (K × Dot × V)) (d : Dot) (v : V) (more : List (K × Dot × V))
      → IsStrictlySortedBy (row_cmp cmp) (rest ++ (key, d, v) ∷ more) → EndsOffKey cmp key rest → AllByRecursion (λ r. cmp r.0 key ≡ Less) rest
  unfolding IsStrictlySortedBy
  all_below_key key [] d v more s off = tt
  all_below_key key (r ∷ []) d v more s off = (first_less _ _ (off [] r refl) s.0.0, tt)
  all_below_key key (r ∷ q ∷ rs) d v more s off =
      let rest = all_below_key key (q ∷ rs) d v more s.1 (λ front row e. off (r ∷ front) row (ap (λ rows. r ∷ rows) e)) in
      (below_key total key r.0 q.0 (first_at_most _ _ s.0.0) rest.0, rest)

  all_below_run : (key : K) (rest : List (K × Dot × V)) (es : List (Dot × V)) → (es ≡ [] → ⊥) → IsStrictlySortedBy (row_cmp cmp) (rest ++ rows_under key es) → EndsOffKey cmp key rest → AllByRecursion (λ r. cmp r.0 key ≡ Less) rest
  unfolding IsStrictlySortedBy
  all_below_run key rest [] some s off = absurd (some refl)
  all_below_run key rest (e ∷ es) some s off = all_below_key key rest e.0 e.1 (rows_under key es) s off

  pub run_is : (key : K) (all rest : List (K × Dot × V)) (function : DotFun V) (es : List (Dot × V)) → function.values.entries ≡ es
      → IsStrictlySortedBy (row_cmp cmp) all → rest ++ rows_under key es ≡ all → (es ≡ [] → ⊥) → EndsOffKey cmp key rest → IsLastRun cmp all rest key function
  run_is key all rest function es same rising cut some off = record {
    cut = ap (λ fs. rest ++ rows_under key fs) same ∙ cut;
    above = all_below_run key rest es some (subst (IsStrictlySortedBy (row_cmp cmp)) (sym cut) rising) off;
    some = λ none. some (sym same ∙ none);
  }

  pub uncut : (all : List (K × Dot × V)) → IsStrictlySortedBy (row_cmp cmp) all → IsCut cmp all all []
  unfolding IsStrictlySortedBy
  uncut all rising = record { cut = append-nil all; rising = rising; below = all_of _ all (λ r. tt); some = tt }

  key_below : (key : K) (fs : List (Dot × V)) (es : List (K × DotFun V)) → (fs ≡ [] → ⊥) → AllByRecursion (λ r. AllByRecursion (λ k. cmp r.0 k ≡ Less) (keys_of es)) (rows_under key fs)
      → AllByRecursion (λ k. cmp key k ≡ Less) (keys_of es)
  key_below key [] es some h = absurd (some refl)
  key_below key (f ∷ fs) es some h = h.0

  pub cut_more : (all rows rest : List (K × Dot × V)) (es more : List (K × DotFun V)) (key : K) (function : DotFun V)
      → IsCut cmp all rows es → IsLastRun cmp rows rest key function → more ≡ insert_entry cmp es key function → IsCut cmp all rest more
  cut_more all rows rest es more key function done run put =
      let under = rows_under key function.values.entries in
      let rising : IsStrictlySortedBy (row_cmp cmp) (rest ++ under) = subst (IsStrictlySortedBy (row_cmp cmp)) (sym run.cut) done.rising in
      let Below : K × Dot × V → Type 0 = λ r. AllByRecursion (λ k. cmp r.0 k ≡ Less) (keys_of es) in
      let below : AllByRecursion Below (rest ++ under) = subst (AllByRecursion Below) (sym run.cut) done.below in
      let first = put_before cmp es key function (key_below key function.values.entries es run.some (all_back Below rest under below)) in
      subst (IsCut cmp all rest) (sym (put ∙ first)) (record {
        cut = sym (append_assoc rest under (rows_of es)) ∙ ap (λ r. r ++ rows_of es) run.cut ∙ done.cut;
        rising = rising_front (row_cmp cmp) rest under rising;
        below = all_both (λ r. cmp r.0 key ≡ Less) Below (λ r. AllByRecursion (λ k. cmp r.0 k ≡ Less) (key ∷ keys_of es)) rest (λ r a b. (a, b)) run.above (all_front Below rest under below);
        some = (run.some, done.some);
      })

has_row : {V : Type 0} (f : DotFun V) (es : List (Dot × V)) → f.values.entries ≡ es → (es ≡ [] → ⊥) → HasRow (λ d (p : Unit {0}). at_dot f.values d)
has_row f [] same some none = some refl
has_row f (e ∷ es) same some none = omega (arith, none_everywhere dot_total f.values.entries (λ d. none d tt), ap length same)

module _ {K V : Type 0} where
  found_has_row : (test : K → Bool) (e : K × DotFun V) (es : List (K × DotFun V)) (f : DotFun V) → HasValue e → (lookup test es ≡ Some f → HasRow (λ d (p : Unit {0}). at_dot f.values d))
      → (b : Bool) → cond b (Some e.1) (lookup test es) ≡ Some f → HasRow (λ d (p : Unit {0}). at_dot f.values d)
  found_has_row test e es f some rest true found = let same : e.1 ≡ f = cc in subst (λ (f : DotFun V). HasRow (λ d (p : Unit {0}). at_dot f.values d)) same (has_row e.1 e.1.values.entries refl some)
  found_has_row test e es f some rest false found = rest found

  -- each function that has a value has a row
  pub each_has_row : (test : K → Bool) (es : List (K × DotFun V)) (f : DotFun V) → AllByRecursion HasValue es → lookup test es ≡ Some f → HasRow (λ d (p : Unit {0}). at_dot f.values d)
  each_has_row test [] f some found = absurd cc
  each_has_row test (e ∷ es) f some found = found_has_row test e es f some.0 (each_has_row test es f some.1) (test e.0) found

-- the last element
last_at : {X : Type 0} (xs : List X) (x : X) → slice_get (xs ++ x ∷ []) (length (xs ++ x ∷ []) - 1) ≡ Some x
last_at xs x =
    ap (slice_get (xs ++ x ∷ [])) (omega (arith, length-append xs (x ∷ [])))
    ∙ slice_get-get_or (xs ++ x ∷ []) (length xs) x (omega (arith, length-append xs (x ∷ [])))
    ∙ ap (λ y. Some y) (get_or-append_seam xs x [] x)

is_last : {X : Type 0} (read rows front : List X) (x last : X) → Some last ≡ slice_get read (length read - 1) → read ≡ rows → rows ≡ front ++ x ∷ [] → last ≡ x
is_last read rows front x last found is cut = same_Some _ _ (found ∙ ap (λ xs. slice_get xs (length xs - 1)) (is ∙ cut) ∙ last_at front x)

-- the last row, where a test compares its key with another
module _ {K V : Type 0} (cmp : K → K → Ordering) (equal : K → K → Bool) (matches : (x y : K) → equal x y ≡ is_eq (cmp x y)) (key : K) (read rows : List (K × Dot × V)) (last : K × Dot × V) (found : Some last ≡ slice_get read (length read - 1)) (is : read ≡ rows) (differ : Bool) (compared : differ ≡ not (equal last.0 key)) where
  pub row_popped : IsExact cmp → differ ≡ false → (rest : List (K × Dot × V)) (k : K) (d : Dot) (v : V) → rows ≡ rest ++ (k, d, v) ∷ [] → rows ≡ rest ++ (key, d, v) ∷ []
  row_popped exact e rest k d v cut =
      let own : last ≡ (k, d, v) = is_last read rows rest (k, d, v) last found is cut in
      cut ∙ ap (λ q. rest ++ (q, d, v) ∷ []) (sym (ap (λ r. r.0) own) ∙ same exact last.0 key (sym (matches last.0 key) ∙ not-false (equal last.0 key) (sym compared ∙ e)))

  pub ends_off : differ ≡ true → EndsOffKey cmp key rows
  ends_off e front row cut =
      sym (matches row.0 key) ∙ ap (λ r. equal r.0 key) (sym (is_last read rows front row last found is cut)) ∙ not-true (equal last.0 key) (sym compared ∙ e)
