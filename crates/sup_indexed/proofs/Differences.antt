-- Functions that a join leaves as they are, found by their values.
use mathlib.Core.Bool.{false≢true}
use Rattle.std.specs.Prelude.{ℕ, ◌≡◌, ◌⊎◌, Bool, true, false, not, cond, List, [], ◌∷◌, length, slice_get, Some, None, IsSome, refl}
use Rattle.std.proofs.Common.{sym, ap, ◌∙◌, subst}
use Rattle.std.proofs.lemmas.Option.{same_Some}
use Rattle.std.specs.Ordering.{eq_by_cmp}
use Rattle.std.specs.Map.{lookup}
use Rattle.std.specs.BTreeMap.{is_at}
use Rattle.sup_causal.specs.declared.dot.Dot.{Dot}
use Rattle.sup_causal.specs.Dots.{dot_cmp}
use Rattle.sup_causal.specs.DotLaws.{dot_exact}
use Rattle.sup_dot_store.specs.ByDot.{ByDot, at_dot}
use Rattle.sup_dot_store.proofs.IndexLaws.{same}

-- a list of one element is that element's
pub only_of : {X : Type 0} (es : List X) (x : X) → length es ≡ 1 → slice_get es 0 ≡ Some x → es ≡ x ∷ []
only_of [] x one first = absurd cc
only_of (e ∷ []) x one first = ap (λ y. y ∷ []) (same_Some e x first)
only_of (e ∷ f ∷ es) x one first = absurd (cc one)

opposite : (b : Bool) → not b ≡ true → b ≡ false
opposite true h = absurd (false≢true h)
opposite false h = refl

-- where a function has one value alone, of a dot that is not among some, no dot of its values is
pub lone_dot : {V : Type 0} (among : Dot → Bool) (values : ByDot V) (only : Dot) (v : V) → values.entries ≡ (only, v) ∷ [] → (b : Bool) → b ≡ among only → not b ≡ true → (d : Dot) → IsSome (at_dot values d) → among d ≡ false
lone_dot among values only v is b said lacks d some = at (eq_by_cmp dot_cmp d only) refl
  where
    at : (b : Bool) → eq_by_cmp dot_cmp d only ≡ b → among d ≡ false
    at true e = ap among (same dot_exact d only e) ∙ sym said ∙ opposite b lacks
    at false e = absurd (false≢true (subst IsSome (ap (lookup (is_at (dot_cmp d))) is ∙ ap (λ b. cond b (Some v) None) e) some))
