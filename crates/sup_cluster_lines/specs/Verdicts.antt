-- What becomes of messages, as words say it (this project's script format).
use Rattle.std.specs.Prelude.{◌==◌, List, [], ◌∷◌, Option, Some, None, if◌then◌else◌, codes}
use Rattle.std.specs.Str.{bytes_eq}
use Rattle.sup_links.specs.declared.script.Verdict.{Verdict}
use Rattle.sup_links.specs.declared.script.Verdict.TheVariants.{Pass, Lose, Twice, Hold}
use Rattle.sup_lines.specs.Words.{Word, ◌>>=◌}
use Rattle.sup_lines.specs.Values.{number_of}
use Rattle.sup_lines.specs.Options.{value_after}

-- hold:N, with N from 1 to 1000
unfoldable pub hold_of : Word → Option Verdict
hold_of word = do
  numeral ← value_after (codes "hold:") word
  n ← number_of 1000 numeral
  if n == 0 then None else Some (Hold n)

-- pass, lose, twice or hold:N
unfoldable pub verdict_of : Word → Option Verdict
verdict_of word =
    if bytes_eq word (codes "pass") then Some Pass else
    (if bytes_eq word (codes "lose") then Some Lose else
    (if bytes_eq word (codes "twice") then Some Twice else hold_of word))

-- each word, read as a verdict
abbrev pub verdicts_of : List Word → Option (List Verdict)
verdicts_of [] = Some []
verdicts_of (word ∷ words) = do
  verdict ← verdict_of word
  verdicts ← verdicts_of words
  Some (verdict ∷ verdicts)
