-- A record: a line that says how an image changed (this project).
use Rattle.std.specs.Prelude.{◌==◌, ◌&&◌, ◌||◌, ◌++◌, nat_le, Bool, length, take, drop, if◌then◌else◌}
use Rattle.std.specs.List.{list_all}
use Rattle.std.specs.Char.{is_ascii_digit}
use Rattle.sup_specs.specs.Values.{Bytes}
use Rattle.sup_journal.specs.Checksums.{checksum}
use Rattle.sup_journal.specs.Edits.{number_of, digits_of, edits_in, edited}

-- digits are the checksum of these edits
unfoldable pub is_sum_of : Bytes → Bytes → Bool
is_sum_of digits edits = list_all is_ascii_digit digits && (number_of digits == checksum edits)

-- twenty digits, and the edits of which they are the checksum
unfoldable pub is_record : Bytes → Bool
is_record line = nat_le 20 (length line) && is_sum_of (take 20 line) (drop 20 line)

-- edits behind their checksum
unfoldable pub line_of : Bytes → Bytes
line_of edits = digits_of 20 (checksum edits) ++ edits

-- what a record makes of an image
unfoldable pub applied : Bytes → Bytes → Bytes
applied line image = edited (edits_in (drop 20 line)) image

-- a line that may stand behind an image: a record, or nothing
abbrev pub is_sound : Bytes → Bool
is_sound line = length line == 0 || is_record line

-- an image after such a line
abbrev pub after : Bytes → Bytes → Bytes
after line image = if length line == 0 then image else applied line image
