-- What is seen of a keeper that lacks memory at one call (this project).
use Rattle.std.specs.Prelude.{ℕ, Option}
use Rattle.sup_keeper.specs.Keeping.{Kept}

pub record Scant : Type 0 where
  pub inner : Kept
  pub left : Option ℕ  -- how many calls go through before the one that is refused; none once it has been
