-- Shares of a gate: each pass has parts of the one whole, so that a pass that has all of them knows that it is the only one (after fractional
-- permissions, J. Boyland 2003). A share is an exponent, e for one part in 2 ^ e, so that a split halves it and no fraction is met.
use Rattle.std.specs.Prelude.{◌≡◌, ◌≤◌, ℕ, suc, ◌+◌, ◌-◌, ◌^◌, Bool, true, false, List, [], ◌∷◌, map}
use Rattle.std.specs.List.{AllByRecursion}

-- the shares together, in parts of 2 ^ n
abbrev pub parts_at : ℕ → List ℕ → ℕ
parts_at n [] = 0
parts_at n (e ∷ es) = 2 ^ (n - e) + parts_at n es

abbrev pub AllAtMost : ℕ → List ℕ → Type 0
AllAtMost n = AllByRecursion (λ e. e ≤ n)

-- they come to one, counted in parts of 2 ^ n
abbrev pub IsWholeAt : ℕ → List ℕ → Type 0
IsWholeAt n shares = AllAtMost n shares × (parts_at n shares ≡ 2 ^ n)

-- they come to one
abbrev pub IsWhole : List ℕ → Type 0
IsWhole shares = (n : ℕ) × IsWholeAt n shares

-- each share cut in two, of which this is one half
abbrev pub halved : List ℕ → List ℕ
halved = map suc

-- whether there is a share at all
abbrev pub is_shared : List ℕ → Bool
is_shared [] = false
is_shared (e ∷ es) = true
