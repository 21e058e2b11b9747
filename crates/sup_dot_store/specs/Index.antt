-- What functions under keys have at a key and a dot, and how many values they have (this project).
use Rattle.std.specs.Prelude.{◌≡◌, ℕ, ◌+◌, ◌&&◌, cond, List, [], ◌∷◌, length, Option, Some, None}
use Rattle.std.specs.declared.cmp.Ordering.{Ordering}
use Rattle.std.specs.Ordering.{eq_by_cmp}
use Rattle.std.specs.Map.{lookup}
use Rattle.std.specs.BTreeMap.{BTreeMap, is_at}
use Rattle.sup_causal.specs.declared.dot.Dot.{Dot}
use Rattle.sup_causal.specs.Dots.{dot_eq}
use Rattle.sup_dot_store.specs.declared.dot_fun.DotFun.{DotFun}
use Rattle.sup_dot_store.specs.ByDot.{at_dot}
use Rattle.sup_dot_store.specs.Contents.{values_of}
use Rattle.sup_dot_store.specs.Places.{optional_held}

-- the value of a dot
abbrev pub value_of : {V : Type 0} → DotFun V → Dot → Unit {0} → Option V
value_of f d p = at_dot (values_of f) d

-- the value under a key and a dot, of functions that stand in a list under their keys
abbrev pub value_among : {K V : Type 0} → (K → K → Ordering) → List (K × DotFun V) → K → Dot → Option V
value_among cmp es k d = optional_held value_of (lookup (is_at (cmp k)) es) d tt

-- the same of a map
abbrev pub value_under : {K V : Type 0} → (K → K → Ordering) → BTreeMap K (DotFun V) → K → Dot → Option V
value_under cmp stores k d = value_among cmp stores.entries k d

-- how many values there are
abbrev pub count_in : {V : Type 0} → List (DotFun V) → ℕ
count_in [] = 0
count_in (f ∷ fs) = length (values_of f).entries + count_in fs

-- what a list of rows has under a key and a dot: the first that stands there
abbrev pub row_value : {K V : Type 0} → (K → K → Ordering) → List (K × Dot × V) → K → Dot → Option V
row_value cmp [] k d = None
row_value cmp (r ∷ rs) k d = cond (eq_by_cmp cmp k r.0 && dot_eq d r.1) (Some r.2) (row_value cmp rs k d)

-- what the rows have under each key and dot is the value that stands there
abbrev pub AreRowsOf : {K V : Type 0} → (K → K → Ordering) → List (K × Dot × V) → BTreeMap K (DotFun V) → Type 0
AreRowsOf {K} cmp rows stores = (k : K) (d : Dot) → row_value cmp rows k d ≡ value_under cmp stores k d
