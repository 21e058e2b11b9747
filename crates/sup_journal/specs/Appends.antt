-- Records that are put behind a file (this project).
use Rattle.std.specs.Prelude.{◌≡◌, ◌<◌, ℕ, true, ◌∷◌, [], ◌++◌, length, take, drop, Some}
use Rattle.std.specs.List.{list_all}
use Rattle.sup_specs.specs.Values.{Bytes}
use Rattle.sup_journal.specs.Records.{is_record, is_sound, applied}
use Rattle.sup_journal.specs.Files.{IsOneLine, lines_of, image_in}

-- A file has this image, and a record may be put behind it: it has the image also where a line feed ends its last line, and each line
-- behind the first is then a record, or empty.
pub record IsAppendable (file image : Bytes) : Type 0 where
  pub has : image_in file ≡ Some image
  pub ended : image_in (file ++ 10 ∷ []) ≡ Some image
  pub sound : list_all is_sound (drop 1 (lines_of file)) ≡ true

-- bytes are this line between two line feeds
pub record IsFramed (bytes line : Bytes) : Type 0 where
  pub is : bytes ≡ 10 ∷ (line ++ 10 ∷ [])
  pub one : IsOneLine line

-- bytes are a record, between two line feeds, that makes the new image of the old one
pub record MakesImage (bytes old new : Bytes) : Type 0 where
  pub line : Bytes
  pub framed : IsFramed bytes line
  pub sum : is_record line ≡ true
  pub makes : applied line old ≡ new

-- behind any file behind which a record may be put, these bytes leave the image as it is
abbrev pub LeavesImage : Bytes → Type 0
LeavesImage tail = (file image : Bytes) → IsAppendable file image → image_in (file ++ tail) ≡ Some image

-- an image of one line is a file that has it, and a record may be put behind it
abbrev pub AnImageIsItsFile : Type 0
AnImageIsItsFile = (image : Bytes) → IsOneLine image → IsAppendable image image

-- behind a file a record makes the new image of the old one, and another may be put behind it
abbrev pub ARecordMakesItsImage : Type 0
ARecordMakesItsImage = (file old bytes new : Bytes) → IsAppendable file old → MakesImage bytes old new → IsAppendable (file ++ bytes) new

-- a line that no line feed ends, as a record that is cut short and what else the disk has there, says nothing
abbrev pub AnUnendedLineSaysNothing : Type 0
AnUnendedLineSaysNothing = (line : Bytes) → IsOneLine line → LeavesImage (10 ∷ line)

-- each front of a framed line, but the whole, says nothing
abbrev pub ACutRecordSaysNothing : Type 0
ACutRecordSaysNothing = (bytes line : Bytes) → IsFramed bytes line → (n : ℕ) → n < length bytes → LeavesImage (take n bytes)
