-- Values that an order ties, and values that are one.
use Rattle.std.specs.Prelude.{◌≡◌, true}
use Rattle.std.proofs.Common.{ap, subst}
use Rattle.std.specs.declared.cmp.Ordering.{Ordering}
use Rattle.std.specs.Ordering.{is_eq, eq_by_cmp}
use Rattle.std.specs.Cmp.{IsTotalOrder}
use Rattle.std.proofs.lemmas.Cmp.{tied_itself}
use Rattle.sup_specs.specs.Exact.{IsExact}
use Rattle.sup_causal.proofs.DotLemmas.{equal_from_is_eq}

-- values that an exact order doesn't tell apart are one
pub same : {X : Type 0} {cmp : X → X → Ordering} → IsExact cmp → (x y : X) → eq_by_cmp cmp x y ≡ true → x ≡ y
same {X} {cmp} exact x y e = exact x y (equal_from_is_eq (cmp x y) e)

-- a value is tied to what it is
pub tie : {X : Type 0} {cmp : X → X → Ordering} → IsTotalOrder cmp → (x y : X) → x ≡ y → eq_by_cmp cmp x y ≡ true
tie {X} {cmp} total x y e = subst (λ y. eq_by_cmp cmp x y ≡ true) e (ap is_eq (tied_itself total x))
