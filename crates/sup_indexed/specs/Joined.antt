-- What a join of functions under keys gives, and what it asks for (this project).
use Rattle.std.specs.Prelude.{◌≡◌, true, Option, IsSome}
use Rattle.std.specs.declared.cmp.Ordering.{Ordering}
use Rattle.std.specs.BTreeMap.{BTreeMap}
use Rattle.sup_causal.specs.declared.dot.Dot.{Dot}
use Rattle.sup_causal.specs.Dots.{Context, has}
use Rattle.sup_causal.specs.Join.{lesser}
use Rattle.sup_dot_store.specs.declared.dot_fun.DotFun.{DotFun}
use Rattle.sup_dot_store.specs.ByDot.{at_dot}
use Rattle.sup_dot_store.specs.Contents.{values_of}
use Rattle.sup_dot_store.specs.Index.{value_under}
use Rattle.sup_dot_store.specs.Points.{standing, higher, value_at}
use Rattle.sup_indexed.specs.declared.planning.PlannedMap.{PlannedMap}
use Rattle.sup_indexed.specs.Contents.{functions_planned}
use Rattle.sup_indexed.specs.Changed.{changed_at, changed_value, value_in}

-- the value that the join of two states, each a context and its functions, has under a key and a dot
abbrev pub joined_value : {K V : Type 0} → (K → K → Ordering) → (V → V → Ordering) → Context → BTreeMap K (DotFun V) → Context → BTreeMap K (DotFun V) → K → Dot → Option V
joined_value key_cmp value_cmp mine stores theirs other k d = value_at (higher (lesser value_cmp) (standing (has mine d) (value_under key_cmp stores k d)) (standing (has theirs d) (value_under key_cmp other k d)))

-- the function has at each dot the value of the join under the key
abbrev pub IsJoinedUnder : {K V : Type 0} → (K → K → Ordering) → (V → V → Ordering) → Context → BTreeMap K (DotFun V) → Context → BTreeMap K (DotFun V) → K → DotFun V → Type 0
IsJoinedUnder key_cmp value_cmp mine stores theirs other k f = (d : Dot) → at_dot (values_of f) d ≡ joined_value key_cmp value_cmp mine stores theirs other k d

-- the context has the dot of each value under the key
abbrev pub AreKnownUnder : {K V : Type 0} → (K → K → Ordering) → BTreeMap K (DotFun V) → Context → K → Type 0
AreKnownUnder cmp stores mine k = (d : Dot) → IsSome (value_under cmp stores k d) → has mine d ≡ true

-- the context has the dot of each value
abbrev pub AreKnown : {K V : Type 0} → (K → K → Ordering) → BTreeMap K (DotFun V) → Context → Type 0
AreKnown {K} cmp stores mine = (k : K) → AreKnownUnder cmp stores mine k

-- once the functions are changed, what stands is what the join of the states has
abbrev pub ChangesToJoin : {K V : Type 0} → (K → K → Ordering) → (V → V → Ordering) → Context → BTreeMap K (DotFun V) → Context → BTreeMap K (DotFun V) → BTreeMap K (DotFun V) → Type 0
ChangesToJoin {K} key_cmp value_cmp mine stores theirs other changed = (k : K) (d : Dot) → changed_value key_cmp changed stores k d ≡ joined_value key_cmp value_cmp mine stores theirs other k d

-- the context has the dot of each value of the function, if there is one
abbrev pub AreKnownIn : {V : Type 0} → Context → Option (DotFun V) → Type 0
AreKnownIn mine o = (d : Dot) → IsSome (value_in o d) → has mine d ≡ true

-- the function, or where there is none what stood there, is the join of two under their contexts
abbrev pub IsChangeTo : {V : Type 0} → (V → V → Ordering) → Context → Option (DotFun V) → Context → Option (DotFun V) → Option (DotFun V) → Type 0
IsChangeTo value_cmp mine here theirs there o = (d : Dot) → changed_at o (value_in here d) d ≡ value_at (higher (lesser value_cmp) (standing (has mine d) (value_in here d)) (standing (has theirs d) (value_in there d)))

-- the planned functions change to the join
abbrev pub IsJoinPlan : {K V : Type 0} → (K → K → Ordering) → (V → V → Ordering) → Context → BTreeMap K (DotFun V) → Context → BTreeMap K (DotFun V) → PlannedMap K V → Type 0
IsJoinPlan key_cmp value_cmp mine stores theirs other plan = ChangesToJoin key_cmp value_cmp mine stores theirs other (functions_planned plan)
