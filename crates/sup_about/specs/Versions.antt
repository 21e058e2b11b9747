-- The line that tells a program's version (this project's output format).
use Rattle.std.specs.Prelude.{ℕ, ◌+◌, ◌==◌, Bool, false, ◌&&◌, List, length, Option, None, Some, if◌then◌else◌, codes, nat_eq, position}
use Rattle.std.specs.List.{starts_with}
use Rattle.std.specs.Option.{option_map_or}
use Rattle.sup_about.specs.declared.asked.Program.{Program}
use Rattle.sup_about.specs.declared.asked.Program.TheVariants.{Supctl, Supd, Supdraw}

-- how the line begins that whatever built the program wrote beside it
abbrev pub line_start : Program → List ℕ
line_start Supctl = codes "supctl 0.9.0, "
line_start Supd = codes "supd 0.9.0, "
line_start Supdraw = codes "supdraw 0.9.0, "

-- where the first line feed is
abbrev pub first_line_feed : List ℕ → Option ℕ
first_line_feed bytes = position (λ byte. byte == 10) bytes

-- that is the last byte
abbrev pub is_one_line : List ℕ → Bool
is_one_line bytes = option_map_or (λ place. place + 1 == length bytes) (first_line_feed bytes) false

-- these bytes are a line of the program, in this version
abbrev pub is_line_of : Program → List ℕ → Bool
is_line_of program bytes = starts_with nat_eq bytes (line_start program) && is_one_line bytes

-- what the program says where there is no such line: it can't know whether it is proved
abbrev pub own_line : Program → List ℕ
own_line Supctl = codes "supctl 0.9.0, not told whether proved: no supctl.version stands beside it\n"
own_line Supd = codes "supd 0.9.0, not told whether proved: no supd.version stands beside it\n"
own_line Supdraw = codes "supdraw 0.9.0, not told whether proved: no supdraw.version stands beside it\n"

-- the line of whatever built it, where that was found, or else its own
abbrev pub version_text : Program → Option (List ℕ) → List ℕ
version_text program (Some bytes) = if is_line_of program bytes then bytes else own_line program
version_text program None = own_line program
