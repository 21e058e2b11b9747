-- An image's file: its first line is the image, each line behind it a record of how the image changed, or empty (this project).
use Rattle.std.specs.Prelude.{◌≡◌, ℕ, ◌+◌, ◌-◌, ◌==◌, Bool, false, List, [], ◌∷◌, ◌++◌, length, take, Option, Result, Ok, Err, if◌then◌else◌, ⊤}
use Rattle.std.specs.List.{list_any, slice_split}
use Rattle.std.specs.Result.{result_ok}
use Rattle.sup_specs.specs.Values.{Bytes}
use Rattle.sup_journal.specs.declared.reading.ReadFault.{ReadFault}
use Rattle.sup_journal.specs.declared.reading.ReadFault.TheVariants.{Damaged, OutOfMemory}
use Rattle.sup_journal.specs.Records.{is_record, is_sound, after}

-- a line feed
abbrev pub is_feed : ℕ → Bool
is_feed byte = byte == 10

-- no line feed is in it
abbrev pub IsOneLine : Bytes → Type 0
IsOneLine text = list_any is_feed text ≡ false

-- the lines of a text, at least one: what stands behind the last line feed is a line too
abbrev pub lines_of : Bytes → List Bytes
lines_of text = slice_split is_feed text

-- those that a line feed ends: all but the last
unfoldable pub ended_lines : Bytes → List Bytes
ended_lines text = take (length (lines_of text) - 1) (lines_of text)

-- a text is this line, a line feed and these bytes
pub record IsCut (text line rest : Bytes) : Type 0 where
  pub is : text ≡ line ++ 10 ∷ rest
  pub one : IsOneLine line

-- the image before a line of this number that is neither a record nor empty; the number, where a record stands behind it
abbrev pub judged : ℕ → Bytes → List Bytes → Result Bytes ℕ
judged number image behind = if list_any is_record behind then Err number else Ok image

-- what the lines from this number on make of an image, up to the first that is neither a record nor empty
unfoldable pub replayed : ℕ → Bytes → List Bytes → Result Bytes ℕ
replayed number image [] = Ok image
replayed number image (line ∷ lines) = if is_sound line then replayed (number + 1) (after line image) lines
    else judged number image lines

-- the image that a file has, or the number of the line by which it is damaged; a line that no line feed ends says nothing behind the first
unfoldable pub reading_of : Bytes → Result Bytes ℕ
reading_of file = elim (ended_lines file) [ [] ↦ Ok file | first ∷ others ↦ replayed 2 first others ]

-- the image, none of a damaged file
abbrev pub image_in : Bytes → Option Bytes
image_in file = result_ok (reading_of file)

-- why no image is told of what was read; memory may be refused of any
abbrev pub IsFaultOf : Result Bytes ℕ → ReadFault → Type 0
IsFaultOf reading (Damaged number) = reading ≡ Err number
IsFaultOf reading OutOfMemory = ⊤
