-- What is known of a reader that may not be there yet.
use Rattle.std.specs.Prelude.{ℕ, List, [], Option, Some, None}

-- of one that isn't there nothing is left
abbrev pub late_remaining : {R : Type 0} → (R → Option (List ℕ)) → Option R → Option (List ℕ)
late_remaining remaining None = Some []
late_remaining remaining (Some reader) = remaining reader
