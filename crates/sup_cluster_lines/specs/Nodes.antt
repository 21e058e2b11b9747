-- The nodes of a run of threads (this project's script format).
use Rattle.std.specs.Prelude.{ℕ, List, Option}
use Rattle.sup_lines.specs.Words.{Name}
use Rattle.sup_lines.specs.Script.{opening_within}

-- the nodes that the bytes of the first line say, 2 to 5 distinct ones
abbrev pub opening_of : List ℕ → Option (List Name)
opening_of bytes = opening_within 2 5 bytes
