-- A test of each item of a list.
use Rattle.std.specs.Prelude.{◌≡◌, Bool, List, IsTrue}
use Rattle.std.specs.List.{AllPass, list_all}
use Rattle.std.proofs.Common.{sym, ◌∙◌}
use Rattle.std.proofs.lemmas.List.Sums.{AllPass-from_list_all, list_all-from_AllPass}

pub all_pass : {X : Type 0} (p : X → Bool) (xs : List X) (r : Bool) → r ≡ list_all p xs → (IsTrue r → AllPass p xs) × (AllPass p xs → IsTrue r)
all_pass p xs r is = (λ t. AllPass-from_list_all p xs (sym is ∙ t), λ a. is ∙ list_all-from_AllPass p xs a)
