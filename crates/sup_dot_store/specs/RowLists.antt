-- The rows of functions under keys as a list, by key, and under one key by dot (this project).
use Rattle.std.specs.Prelude.{◌≡◌, false, List, [], ◌∷◌, ◌++◌, map}
use Rattle.std.specs.declared.cmp.Ordering.{Ordering}
use Rattle.std.specs.declared.cmp.Ordering.TheVariants.{Less}
use Rattle.std.specs.List.{AllByRecursion}
use Rattle.std.specs.Ordering.{then_cmp, on, eq_by_cmp}
use Rattle.sup_causal.specs.declared.dot.Dot.{Dot}
use Rattle.sup_causal.specs.Dots.{dot_cmp}
use Rattle.sup_dot_store.specs.declared.dot_fun.DotFun.{DotFun}
use Rattle.sup_dot_store.specs.Contents.{values_of}

-- the rows of one function under a key
abbrev pub rows_under : {K V : Type 0} → K → List (Dot × V) → List (K × Dot × V)
rows_under k es = map (λ e. (k, e.0, e.1)) es

-- the rows of functions under keys, each made of a key, a dot and a value
abbrev pub rows_in : {K V Row : Type 0} → (K → Dot → V → Row) → List (K × DotFun V) → List Row
rows_in make [] = []
rows_in make (e ∷ es) = map (λ f. make e.0 f.0 f.1) (values_of e.1).entries ++ rows_in make es

-- these rows, each as its key, its dot and its value
abbrev pub rows_of : {K V : Type 0} → List (K × DotFun V) → List (K × Dot × V)
rows_of es = rows_in (λ key dot value. (key, dot, value)) es

-- rows by key, then by dot
abbrev pub row_cmp : {K V : Type 0} → (K → K → Ordering) → K × Dot × V → K × Dot × V → Ordering
row_cmp cmp = then_cmp (on (λ r. r.0) cmp) (on (λ r. r.1) dot_cmp)

-- the key has a value under a dot
abbrev pub HasValue : {K V : Type 0} → K × DotFun V → Type 0
HasValue e = (values_of e.1).entries ≡ [] → ⊥

-- the last of the rows, if any, is not the key's
abbrev pub EndsOffKey : {K V : Type 0} → (K → K → Ordering) → K → List (K × Dot × V) → Type 0
EndsOffKey {K} {V} cmp key rows = (front : List (K × Dot × V)) (row : K × Dot × V) → rows ≡ front ++ row ∷ [] → eq_by_cmp cmp row.0 key ≡ false

-- the rows are the rest and the function's, whose key is above the keys of the rest
pub record IsLastRun {K V : Type 0} (cmp : K → K → Ordering) (rows rest : List (K × Dot × V)) (key : K) (function : DotFun V) : Type 0 where
  pub cut : rest ++ rows_under key (values_of function).entries ≡ rows
  pub above : AllByRecursion (λ r. cmp r.0 key ≡ Less) rest
  pub some : HasValue (key, function)
