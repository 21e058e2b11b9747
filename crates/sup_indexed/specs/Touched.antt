-- The first value under a key, and what it is once a plan is carried out (this project).
use Rattle.std.specs.Prelude.{◌≡◌, ◌↔◌, Bool, true, false, List, map, Option, Some, None, slice_get}
use Rattle.std.proofs.Common.{Bor}
use Rattle.std.specs.declared.cmp.Ordering.{Ordering}
use Rattle.std.specs.Map.{lookup}
use Rattle.std.specs.BTreeMap.{BTreeMap, get, is_at}
use Rattle.sup_specs.specs.Rising.{among}
use Rattle.sup_causal.specs.declared.dot.Dot.{Dot}
use Rattle.sup_dot_store.specs.declared.dot_fun.DotFun.{DotFun}
use Rattle.sup_dot_store.specs.Contents.{values_of}

-- the first value of a function, and none where there is no function
abbrev pub first_in : {V : Type 0} → Option (DotFun V) → Option (Dot × V)
first_in None = None
first_in (Some f) = slice_get (values_of f).entries 0

-- the function that stands under a key once the changed ones are in their places
abbrev pub function_after : {V : Type 0} → Option (DotFun V) → Option (DotFun V) → Option (DotFun V)
function_after None old = old
function_after (Some f) old = Some f

-- the function under a key once these functions are changed
abbrev pub changed_function : {K V : Type 0} → (K → K → Ordering) → BTreeMap K (DotFun V) → BTreeMap K (DotFun V) → K → Option (DotFun V)
changed_function cmp changed stores k = function_after (get cmp changed k) (get cmp stores k)

-- whether there is a first value that has the property
abbrev pub first_has : {V : Type 0} → (V → Bool) → Option (Dot × V) → Bool
first_has has None = false
first_has has (Some x) = has x.1

-- the first value under a key
abbrev pub first_at : {K V : Type 0} → (K → K → Ordering) → BTreeMap K (DotFun V) → K → Option (Dot × V)
first_at cmp stores k = first_in (get cmp stores k)

-- the first value under a key once these functions are changed
abbrev pub first_after : {K V : Type 0} → (K → K → Ordering) → BTreeMap K (DotFun V) → BTreeMap K (DotFun V) → K → Option (Dot × V)
first_after cmp changed stores k = first_in (changed_function cmp changed stores k)

-- lent functions, with their keys
abbrev pub lent_functions : {K V : Type 0} → List (Bor K × Bor (DotFun V)) → List (K × DotFun V)
lent_functions fs = map (λ f. (f.0.now, f.1.now)) fs

-- the lent functions are those that stand under the keys once these functions are changed
abbrev pub AreFunctionsAfter : {K V : Type 0} → (K → K → Ordering) → BTreeMap K (DotFun V) → BTreeMap K (DotFun V) → List (Bor K × Bor (DotFun V)) → Type 0
AreFunctionsAfter {K} cmp changed stores fs = (k : K) → lookup (is_at (cmp k)) (lent_functions fs) ≡ changed_function cmp changed stores k

-- the keys are those whose first value differs once these functions are changed
abbrev pub AreTouchedKeys : {K V : Type 0} → (K → K → Ordering) → BTreeMap K (DotFun V) → BTreeMap K (DotFun V) → List K → Type 0
AreTouchedKeys {K} cmp changed stores keys = (k : K) → (among cmp keys k ≡ true) ↔ (first_after cmp changed stores k ≡ first_at cmp stores k → ⊥)

-- under each key the first value has the property once these functions are changed where it has it before, and only there
abbrev pub KeepsProperty : {K V : Type 0} → (K → K → Ordering) → (V → Bool) → BTreeMap K (DotFun V) → BTreeMap K (DotFun V) → Type 0
KeepsProperty {K} cmp has changed stores = (k : K) → first_has has (first_after cmp changed stores k) ≡ first_has has (first_at cmp stores k)
