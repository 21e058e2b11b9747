-- What a file may have after a loss of power (this project).
use Rattle.std.specs.Prelude.{◌≡◌, Option, Some, ◌⊎◌}
use Rattle.sup_specs.specs.Values.{Bytes}

-- some bytes, or none where there is no file
abbrev pub What : Type 0
What = Option Bytes

-- nothing is possible that was not
abbrev pub NoMore : (What → Type 0) → (What → Type 0) → Type 0
NoMore before after = (what : What) → after what → before what

-- nothing else is possible than before, or these bytes
abbrev pub OrThese : (What → Type 0) → (What → Type 0) → Bytes → Type 0
OrThese before after bytes = (what : What) → after what → (before what ⊎ (what ≡ Some bytes))

-- nothing but these bytes is possible
abbrev pub OnlyThese : (What → Type 0) → Bytes → Type 0
OnlyThese after bytes = (what : What) → after what → what ≡ Some bytes

-- nothing but this is possible
abbrev pub OnlyThis : (What → Type 0) → What → Type 0
OnlyThis after this = (what : What) → after what → what ≡ this

-- these bytes were beside the file at some disk, and flushed
abbrev pub WereFlushed : {D : Type 0} → (D → Bytes → Type 0) → Bytes → Type 0
WereFlushed {D} flushed bytes = (disk : D) × flushed disk bytes
