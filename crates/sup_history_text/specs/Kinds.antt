-- What a line of a history is, by what it begins with, and what may stand behind it (this project's format of histories).
use Rattle.std.specs.Prelude.{ℕ, Bool, true, false, ◌==◌, not, List, length, codes, if◌then◌else◌, Option, None, Some}
use Rattle.std.specs.List.{starts_with}
use Rattle.sup_history_text.specs.declared.kinds.LineKind.{LineKind}
use Rattle.sup_history_text.specs.declared.kinds.LineKind.TheVariants.{Begin, Heard, Told, End, Other}

abbrev pub begins_with : List ℕ → List ℕ → Bool
begins_with text line = starts_with (λ a b. a == b) line text

abbrev pub is_begin : List ℕ → Bool
is_begin line = begins_with (codes "begin ") line

abbrev pub kind_of : List ℕ → LineKind
kind_of line =
    if is_begin line then Begin
    else (if begins_with (codes "<") line then Heard
    else (if not (begins_with (codes ">") line) then Other
    else (if length line == 1 then End else Told)))

-- whether an answer has begun there and has not ended, behind a line of this kind or behind nothing
abbrev pub is_answering : Option LineKind → Bool
is_answering None = false
is_answering (Some Begin) = true
is_answering (Some Heard) = true
is_answering (Some Told) = true
is_answering (Some End) = false
is_answering (Some Other) = false

-- whether an answer has just ended there
abbrev pub is_answered : Option LineKind → Bool
is_answered None = false
is_answered (Some Begin) = false
is_answered (Some Heard) = false
is_answered (Some Told) = false
is_answered (Some End) = true
is_answered (Some Other) = false

-- Whether a line of the second kind may stand right behind one of the first, or behind nothing: a begin may anywhere, a line that is
-- heard behind an answer's end, and what is told only until its answer has ended.
abbrev pub may_follow : Option LineKind → LineKind → Bool
may_follow before Begin = true
may_follow before Heard = is_answered before
may_follow before Told = is_answering before
may_follow before End = is_answering before
may_follow before Other = false
