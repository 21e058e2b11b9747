-- Values that are there: an option with one, and a function with a row.
use Rattle.std.proofs.Common.{◌≡◌, ◌<◌, length, Option, Some, IsSome, refl, subst, arith}
use Rattle.sup_causal.specs.DotLaws.{dot_total}
use Rattle.sup_dot_store.specs.declared.dot_fun.DotFun.{DotFun}
use Rattle.sup_dot_store.specs.Places.{HasRow}
use Rattle.sup_dot_store.specs.Index.{value_of}
use Rattle.sup_dot_store.proofs.Rows.{none_everywhere}

pub is_there : {X : Type 0} {o : Option X} {x : X} → Some x ≡ o → IsSome o
is_there e = subst IsSome e refl

pub has_row : {V : Type 0} (f : DotFun V) → 0 < length f.values.entries → HasRow (value_of f)
has_row f some none = omega (arith, none_everywhere dot_total f.values.entries (λ d. none d tt))
