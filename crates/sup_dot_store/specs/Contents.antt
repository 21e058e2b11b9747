-- What a contract sees of the stores and of a state (Almeida, Shoker, Baquero 2018).
use Rattle.std.specs.declared.cmp.PartialEq.{Ghosts as EqGhosts}
use Rattle.std.specs.declared.cmp.PartialOrd.{Ghosts as PartialOrdGhosts}
use Rattle.std.specs.declared.cmp.Ord.{Ghosts as OrdGhosts}
use Rattle.std.specs.BTreeMap.{BTreeMap}
use Rattle.sup_causal.specs.Dots.{Context}
use Rattle.sup_dot_store.specs.ByDot.{ByDot}
use Rattle.sup_dot_store.specs.declared.dot_store.DotStore.{Ghosts as StoreGhosts}
use Rattle.sup_dot_store.specs.declared.dot_fun.DotFun.{DotFun}
use Rattle.sup_dot_store.specs.declared.dot_map.DotMap.{DotMap}
use Rattle.sup_dot_store.specs.declared.causal.Causal.{Causal}

-- the values of a function, by dot
abbrev pub values_of : {V : Type 0} → DotFun V → ByDot V
values_of f = f.values

-- the stores of a map, by key
abbrev pub stores_of : {K S : Type 0} {eq : EqGhosts K} {ord : OrdGhosts K} {partial : PartialOrdGhosts K} {store : StoreGhosts S} → DotMap K S eq ord partial store → BTreeMap K S
stores_of m = m.stores

-- the store of a state
abbrev pub store_of : {S : Type 0} {store : StoreGhosts S} → Causal S store → S
store_of c = c.store

-- the context of a state
abbrev pub context_of : {S : Type 0} {store : StoreGhosts S} → Causal S store → Context
context_of c = c.context
