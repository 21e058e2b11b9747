-- A keeper in memory either fails or is sound.
use Rattle.std.specs.Prelude.{◌≡◌, Bool, true, false, not, nat_lt, refl}
use Rattle.std.proofs.lemmas.Bool.{not-false}
use mathlib.Core.Logic.{◌⊎◌, inl, inr}
use mathlib.Core.Bool.{true≢false}
use Rattle.sup_keeper.specs.Keeping.{Kept, failing_next, most}
use Rattle.sup_world.specs.CarriedSteps.{holds}

-- where the save isn't to hold, it fails
pub failing : (k : Kept) (saves : Bool) → holds saves k.failures ≡ false → (failing_next k (not saves)).failing ≡ true
failing k true e = absurd (true≢false e)
failing k false e = not-false (nat_lt k.failures most) e

-- else it holds
pub sound : (k : Kept) (saves : Bool) → holds saves k.failures ≡ true → not (failing_next k (not saves)).failing ≡ true
sound k true e = refl
sound k false e = e

pub either : (b : Bool) → (b ≡ true) ⊎ (not b ≡ true)
either true = inl refl
either false = inr refl
