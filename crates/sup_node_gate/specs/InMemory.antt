-- A keeper in memory, as a gate sees it.
use Rattle.std.specs.Prelude.{ℕ, Bool, not}
use Rattle.sup_keeper.specs.Keeping.{Kept}

-- how often it has failed
abbrev pub failures_by : Kept → ℕ
failures_by k = k.failures

-- whether its next save fails only for memory
abbrev pub sound_by : Kept → Bool
sound_by k = not k.failing
