-- The rows of functions under keys rise: by key, and under one key by dot.
use Rattle.std.specs.Prelude.{◌≡◌, List, [], ◌∷◌, ◌++◌}
use Rattle.std.proofs.Common.{◌∙◌, ap, sym, append_assoc}
use Rattle.std.specs.declared.cmp.Ordering.{Ordering}
use Rattle.std.specs.declared.cmp.Ordering.TheVariants.{Less, Equal}
use Rattle.std.specs.Ordering.{ordering_then}
use Rattle.std.specs.Cmp.{IsTotalOrder}
use Rattle.std.proofs.lemmas.Cmp.{tied_itself}
use Rattle.std.specs.List.{AllByRecursion}
use Rattle.std.specs.List.Sorted.{IsStrictlySortedBy}
use Rattle.std.specs.Map.{keys_of}
use Rattle.sup_causal.specs.declared.dot.Dot.{Dot}
use Rattle.sup_causal.specs.Dots.{dot_cmp}
use Rattle.sup_dot_store.specs.declared.dot_fun.DotFun.{DotFun}
use Rattle.sup_dot_store.specs.RowLists.{rows_under, rows_of, row_cmp}

pub all_append : {X : Type 0} (P : X → Type 0) (xs ys : List X) → AllByRecursion P xs → AllByRecursion P ys → AllByRecursion P (xs ++ ys)
all_append P [] ys a b = b
all_append P (x ∷ xs) ys a b = (a.0, all_append P xs ys a.1 b)

pub rising_append : {X : Type 0} (cmp : X → X → Ordering) (xs ys : List X) → IsStrictlySortedBy cmp xs → IsStrictlySortedBy cmp ys → AllByRecursion (λ x. AllByRecursion (λ y. cmp x y ≡ Less) ys) xs → IsStrictlySortedBy cmp (xs ++ ys)
unfolding IsStrictlySortedBy
rising_append cmp [] ys a b below = b
rising_append cmp (x ∷ xs) ys a b below = (all_append (λ y. cmp x y ≡ Less) xs ys a.0 below.0, rising_append cmp xs ys a.1 b below.1)

then_less : (r s : Ordering) → r ≡ Less → ordering_then r s ≡ Less
then_less r s e = ap (λ q. ordering_then q s) e

past : (r s : Ordering) → r ≡ Equal → s ≡ Less → ordering_then r s ≡ Less
past r s e f = ap (λ q. ordering_then q s) e ∙ f

module _ {K V : Type 0} {cmp : K → K → Ordering} (total : IsTotalOrder cmp) where
  below_values : (k : K) (e : Dot × V) (es : List (Dot × V)) → AllByRecursion (λ d. dot_cmp e.0 d ≡ Less) (keys_of es) → AllByRecursion (λ r. row_cmp cmp (k, e.0, e.1) r ≡ Less) (rows_under k es)
  below_values k e [] all = tt
  below_values k e (f ∷ fs) all = (past (cmp k k) (dot_cmp e.0 f.0) (tied_itself total k) all.0, below_values k e fs all.1)

  values_rise : (k : K) (es : List (Dot × V)) → IsStrictlySortedBy dot_cmp (keys_of es) → IsStrictlySortedBy (row_cmp cmp) (rows_under k es)
  unfolding IsStrictlySortedBy
  values_rise k [] s = tt
  values_rise k (e ∷ es) s = (below_values k e es s.0, values_rise k es s.1)

  above_key : (k l : K) (d : Dot) (v : V) (es : List (Dot × V)) → cmp k l ≡ Less → AllByRecursion (λ r. row_cmp cmp (k, d, v) r ≡ Less) (rows_under l es)
  above_key k l d v [] less = tt
  above_key k l d v (e ∷ es) less = (then_less (cmp k l) (dot_cmp d e.0) less, above_key k l d v es less)

  above_keys : (k : K) (d : Dot) (v : V) (es : List (K × DotFun V)) → AllByRecursion (λ l. cmp k l ≡ Less) (keys_of es) → AllByRecursion (λ r. row_cmp cmp (k, d, v) r ≡ Less) (rows_of es)
  above_keys k d v [] all = tt
  above_keys k d v (e ∷ es) all =
      all_append (λ r. row_cmp cmp (k, d, v) r ≡ Less) (rows_under e.0 e.1.values.entries) (rows_of es) (above_key k e.0 d v e.1.values.entries all.0) (above_keys k d v es all.1)

  each_above : (k : K) (fs : List (Dot × V)) (es : List (K × DotFun V)) → AllByRecursion (λ l. cmp k l ≡ Less) (keys_of es) → AllByRecursion (λ q. AllByRecursion (λ r. row_cmp cmp q r ≡ Less) (rows_of es)) (rows_under k fs)
  each_above k [] es all = tt
  each_above k (f ∷ fs) es all = (above_keys k f.0 f.1 es all, each_above k fs es all)

  pub rows_rise : (es : List (K × DotFun V)) → IsStrictlySortedBy cmp (keys_of es) → IsStrictlySortedBy (row_cmp cmp) (rows_of es)
  unfolding IsStrictlySortedBy
  rows_rise [] s = tt
  rows_rise (e ∷ es) s =
      rising_append (row_cmp cmp) (rows_under e.0 e.1.values.entries) (rows_of es) (values_rise e.0 e.1.values.entries e.1.ordered) (rows_rise es s.1) (each_above e.0 e.1.values.entries es s.0)

-- a copy of one row more is pushed
pub row_pushed : {K V : Type 0} (key copy : K) (dot : Dot) (value copied : V) (rows pushed all : List (K × Dot × V)) (left es : List (Dot × V))
    → pushed ≡ rows ++ (copy, dot, copied) ∷ [] → copy ≡ key → copied ≡ value → es ≡ (dot, value) ∷ left → rows ++ rows_under key es ≡ all → pushed ++ rows_under key left ≡ all
row_pushed key copy dot value copied rows pushed all left es push same_key same_value step so_far =
    ap (λ rs. rs ++ rows_under key left) (push ∙ (λ i. rows ++ (same_key i, dot, same_value i) ∷ []))
    ∙ append_assoc rows ((key, dot, value) ∷ []) (rows_under key left)
    ∙ ap (λ fs. rows ++ rows_under key fs) (sym step)
    ∙ so_far
