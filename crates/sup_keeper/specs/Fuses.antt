-- A keeper in memory behind a fuse, which blows at one call (this project).
use Rattle.std.specs.Prelude.{ℕ, ◌+◌, ◌-◌, Bool, if◌then◌else◌, is_some, nat_eq, Option, Some, None}
use Rattle.sup_keeper.specs.Keeping.{Kept}

pub record Fused : Type 0 where
  pub inner : Kept
  pub left : Option ℕ  -- how many calls go through before the one that fails; none once it has failed
  pub failures : ℕ

-- what is left after one more call
abbrev pub burnt : Option ℕ → Option ℕ
burnt None = None
burnt (Some n) = if nat_eq n 0 then None else Some (n - 1)

-- the failures that may still come: the fuse's, and that of a save that the keeper behind it was told to fail
abbrev pub to_come : Option ℕ → Bool → ℕ
to_come left failing = (if is_some left then 1 else 0) + (if failing then 1 else 0)
