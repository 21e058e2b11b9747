-- What is taken from a reader, line by line (this project).
use Rattle.std.specs.Prelude.{◌≢◌, ◌≤◌, ◌<◌, ℕ, List, [], ◌∷◌, ◌++◌, length, All, Option, None, Some, Result, Ok, Err}
use Rattle.std.specs.Io.KnownBytes.{Consumes, Keeps, IsAtEnd}
use Rattle.sup_talk.specs.declared.line.Taken.{Taken}
use Rattle.sup_talk.specs.declared.line.Taken.TheVariants.{Line, TooLong, End}

-- none of these bytes is a line feed
abbrev pub IsUnbroken : List ℕ → Type 0
IsUnbroken bytes = All (λ byte. byte ≢ 10) bytes

-- a byte was taken, or none where there was no more; a fault took none
abbrev pub TakesByte : {E : Type 0} → Result (Option ℕ) E → Option (List ℕ) → Option (List ℕ) → Type 0
TakesByte (Ok (Some byte)) before after = Consumes before after (byte ∷ [])
TakesByte (Ok None) before after = Keeps before after × IsAtEnd after
TakesByte (Err fault) before after = Keeps before after

-- What was taken is a line of so many bytes at most, and its line feed; or a longer one; or all that was left, which has no line feed.
-- A fault took a front of a line.
abbrev pub TakesLine : {E : Type 0} → ℕ → Result Taken E → Option (List ℕ) → Option (List ℕ) → Type 0
TakesLine most (Ok (Line line)) before after = (length line.items ≤ most) × IsUnbroken line.items × Consumes before after (line.items ++ (10 ∷ []))
TakesLine most (Ok TooLong) before after = (bytes : List ℕ) × (most < length bytes) × IsUnbroken bytes × Consumes before after (bytes ++ (10 ∷ []))
TakesLine most (Ok End) before after = (bytes : List ℕ) × IsUnbroken bytes × Consumes before after bytes × IsAtEnd after
TakesLine most (Err fault) before after = (bytes : List ℕ) × IsUnbroken bytes × Consumes before after bytes
