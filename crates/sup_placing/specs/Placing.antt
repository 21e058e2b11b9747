-- Children that are placed among members (this project's form of input and output; the place itself is rendezvous hashing, Thaler and Ravishankar 1998).
use Rattle.std.specs.Prelude.{ℕ, ◌&&◌, nat_le, List, [], ◌∷◌, ◌++◌, length, Option, Some, None, Result, if◌then◌else◌, codes}
use Rattle.std.specs.Str.{bytes_eq}
use Rattle.std.specs.List.{flat_map}
use Rattle.std.specs.Io.KnownBytes.{Appends, Keeps}
use Rattle.sup_placement.specs.Place.{Weigher, place}
use Rattle.sup_lines.specs.Words.{Word, Name}
use Rattle.sup_lines.specs.Values.{child_id_of}
use Rattle.sup_lines.specs.Opening.{distinct_names_of}
use Rattle.sup_lines.specs.Script.{is_plain, words_of, numbered_lines, opened}
use Rattle.sup_jobs.specs.Ends.{KnownBytes, Job, Does}
use Rattle.sup_jobs.specs.Tells.{IsCutShort}
use Rattle.sup_jobs.specs.declared.fault.Ended.{Ended}

-- members NAME.., 0 to 16 distinct names
unfoldable pub members_of : List Word → Option (List Name)
members_of [] = None
members_of (verb ∷ words) =
    if bytes_eq verb (codes "members") && nat_le (length words) 16 then distinct_names_of words else None

-- the members that the bytes of the first line say
unfoldable pub members_in : List ℕ → Option (List Name)
members_in bytes = if is_plain bytes then members_of (words_of bytes) else None

-- ID: the line is one word, since an id has no space
unfoldable pub id_in : List ℕ → Option Word
id_in bytes = if is_plain bytes then child_id_of bytes else None

-- the members, and the ids to be placed among them
abbrev pub PlacingText : Type 0
PlacingText = List Name × List Word

-- what the bytes say, or the number of the first bad line, 0 where all lines are skipped
abbrev pub placing_of : List ℕ → Result PlacingText ℕ
placing_of bytes = opened members_in id_in (numbered_lines bytes)

abbrev pub member_text : Option Name → List ℕ
member_text None = codes "unplaced"
member_text (Some member) = member

-- ID MEMBER, or ID unplaced
abbrev pub placed_text : Weigher → List Name → Word → List ℕ
placed_text weight members id = id ++ codes " " ++ member_text (place weight members id) ++ codes "\n"

-- the lines of all ids, in their order
abbrev pub placing_text : Weigher → PlacingText → List ℕ
placing_text weight placing = flat_map (placed_text weight placing.0) placing.1

-- the ids of the input are placed among its members
abbrev pub placement : Weigher → Job PlacingText
placement weight = record {
  read = placing_of;
  PrintsAll = λ placing before written. Appends before written (placing_text weight placing);
  PrintsShort = λ placing before written. IsCutShort before written (placing_text weight placing);
  -- the whole text stands before anything is written
  PrintsBefore = λ _ before written. Keeps before written;
}

-- The status tells how the run ended, and the error writer was told of that end.
abbrev pub Places : Weigher → KnownBytes → KnownBytes → KnownBytes → KnownBytes → KnownBytes → KnownBytes → Ended → Type 0
Places weight input left before written errors_before errors_written ended = Does (placement weight) input left before written errors_before errors_written ended
