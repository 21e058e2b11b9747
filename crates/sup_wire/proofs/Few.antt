-- Arrays of two, and of four.
use Rattle.std.proofs.Common.{◌≡◌, ◌≢◌, List, [], ◌∷◌, length, None, refl}
use Rattle.serde_json.specs.View.{items_view}
use Rattle.serde_json.specs.declared.value.Value.{Value}
use Rattle.sup_wire.specs.RowReads.{two_in, four_in}

pub two_none : (vs : List Value) → length vs ≢ 2 → two_in (items_view vs) ≡ None
two_none [] h = refl
two_none (a ∷ []) h = refl
two_none (a ∷ b ∷ []) h = absurd (h refl)
two_none (a ∷ b ∷ c ∷ ds) h = refl

pub four_none : (vs : List Value) → length vs ≢ 4 → four_in (items_view vs) ≡ None
four_none [] h = refl
four_none (a ∷ []) h = refl
four_none (a ∷ b ∷ []) h = refl
four_none (a ∷ b ∷ c ∷ []) h = refl
four_none (a ∷ b ∷ c ∷ d ∷ []) h = absurd (h refl)
four_none (a ∷ b ∷ c ∷ d ∷ e ∷ fs) h = refl
