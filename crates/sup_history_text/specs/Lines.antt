-- The lines of a history that were written whole (this project's format of histories).
use Rattle.std.specs.Prelude.{ℕ, Bool, ◌==◌, ◌&&◌, not, nat_lt, length, List, [], ◌∷◌, map, if◌then◌else◌}
use Rattle.std.specs.Borrow.{Bor}
use Rattle.std.specs.List.{slice_split, enumerate_from}
use Rattle.sup_history_text.specs.Kinds.{is_begin}
use Rattle.sup_history_text.specs.declared.line.NumberedLine.{NumberedLine}

-- a number and a line
abbrev pub Line : Type 0
Line = ℕ × List ℕ

abbrev pub line_in : NumberedLine → Line
line_in line = (line.number, line.bytes.now)

abbrev pub lines_in : List NumberedLine → List Line
lines_in = map line_in

abbrev pub texts : List (Bor (List ℕ)) → List (List ℕ)
texts lines = map (λ line. line.now) lines

-- what stands between line feeds (10), and what stands behind the last one
abbrev pub lines_of : List ℕ → List (List ℕ)
lines_of bytes = slice_split (λ byte. byte == 10) bytes

-- each behind its number, from 1
abbrev pub numbered : List ℕ → List Line
numbered bytes = enumerate_from 1 (lines_of bytes)

-- whether a line was written whole that stands before this one: it isn't empty, and no begin follows
abbrev pub is_whole_line : List ℕ → List ℕ → Bool
is_whole_line line next = nat_lt 0 (length line) && not (is_begin next)

-- all but empty ones, those before a begin, and what stands behind the last line feed
abbrev pub whole_lines : List Line → List Line
whole_lines [] = []
whole_lines (line ∷ []) = []
whole_lines (line ∷ next ∷ lines) = if is_whole_line line.1 next.1 then line ∷ whole_lines (next ∷ lines) else whole_lines (next ∷ lines)
