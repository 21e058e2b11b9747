-- What a writer has got of a text (this project).
use Rattle.std.specs.Prelude.{◌≡◌, ◌<◌, ◌⊎◌, true, ℕ, Bool, List, length, take, Option, Result, Ok, Err}
use Rattle.std.specs.Io.KnownBytes.{Appends}

-- The writer has got a front of the text, and not all of it.
abbrev pub IsCutShort : Option (List ℕ) → Option (List ℕ) → List ℕ → Type 0
IsCutShort before written text = (count : ℕ) × (count < length text) × Appends before written (take count text)

-- The writer has got the whole text, or where it failed less than that.
abbrev pub Tells : {X E : Type 0} → Result X E → Option (List ℕ) → Option (List ℕ) → List ℕ → Type 0
Tells (Ok x) before written text = Appends before written text
Tells (Err fault) before written text = IsCutShort before written text

-- What is known of a writer that is given a text.
pub record TriedWriter : Type 0 where
  pub made : ℕ  -- so many attempts, the interrupted ones among them
  pub failed : Bool

-- No more attempts may be made: the writer failed, or was asked as often as can be counted.
abbrev pub IsWornOut : TriedWriter → Type 0
IsWornOut writer = (writer.failed ≡ true) ⊎ (writer.made ≡ 18446744073709551615)
