-- What is read of a file, line by line.
use Rattle.std.proofs.Common.{◌≡◌, ℕ, ◌+◌, true, false, List, [], ◌∷◌, refl, sym, ◌∙◌, ap}
use Rattle.std.specs.Prelude.{Result, Ok, if◌then◌else◌, ◌||◌}
use Rattle.std.specs.List.{list_any}
use Rattle.std.proofs.lemmas.Bool.{or_left}
use Rattle.sup_specs.specs.Values.{Bytes}
use Rattle.sup_journal.specs.Records.{is_record, is_sound, after}
use Rattle.sup_journal.specs.Files.{IsOneLine, IsCut, ended_lines, judged, replayed, reading_of}
use Rattle.sup_journal.proofs.LineLaws.{ended-one_line, ended-cut}

pub replay-nil : (number : ℕ) (image : Bytes) → replayed number image [] ≡ Ok image
unfolding replayed
replay-nil number image = refl

pub replay-sound : (number : ℕ) (image line : Bytes) (lines : List Bytes) → is_sound line ≡ true → replayed number image (line ∷ lines) ≡ replayed (number + 1) (after line image) lines
unfolding replayed
replay-sound number image line lines sound = ap (λ t. if t then replayed (number + 1) (after line image) lines else judged number image lines) sound

replay-bad : (number : ℕ) (image line : Bytes) (lines : List Bytes) → is_sound line ≡ false → replayed number image (line ∷ lines) ≡ judged number image lines
unfolding replayed
replay-bad number image line lines bad = ap (λ t. if t then replayed (number + 1) (after line image) lines else judged number image lines) bad

-- one line more was read
pub read_more : (reading : Result Bytes ℕ) (number : ℕ) (image made rest line next : Bytes) → reading ≡ replayed number image (ended_lines rest) → IsCut rest line next → is_sound line ≡ true → made ≡ after line image
    → reading ≡ replayed (number + 1) made (ended_lines next)
read_more reading number image made rest line next so_far cut sound is =
    so_far ∙ ap (replayed number image) (ended-cut rest line next cut) ∙ replay-sound number image line (ended_lines next) sound
    ∙ ap (λ (i : Bytes). replayed (number + 1) i (ended_lines next)) (sym is)

-- a bad line was read
pub read_bad : (reading : Result Bytes ℕ) (number : ℕ) (image rest line next : Bytes) → reading ≡ replayed number image (ended_lines rest) → IsCut rest line next → is_sound line ≡ false → reading ≡ judged number image (ended_lines next)
read_bad reading number image rest line next so_far cut bad =
    so_far ∙ ap (replayed number image) (ended-cut rest line next cut) ∙ replay-bad number image line (ended_lines next) bad

-- no line is left
pub read_all : (reading : Result Bytes ℕ) (number : ℕ) (image rest : Bytes) → reading ≡ replayed number image (ended_lines rest) → IsOneLine rest → reading ≡ Ok image
read_all reading number image rest so_far one = so_far ∙ ap (replayed number image) (ended-one_line rest one) ∙ replay-nil number image

pub reading_as : (file first : Bytes) (others : List Bytes) → ended_lines file ≡ first ∷ others → reading_of file ≡ replayed 2 first others
unfolding reading_of
reading_as file first others is = ap (λ (ls : List Bytes). elim ls [ [] ↦ Ok file | f ∷ o ↦ replayed 2 f o ]) is

pub reading_one : (file : Bytes) → IsOneLine file → reading_of file ≡ Ok file
unfolding reading_of
reading_one file one = ap (λ (ls : List Bytes). elim ls [ [] ↦ Ok file | f ∷ o ↦ replayed 2 f o ]) (ended-one_line file one)

pub reading_cut : (file first others : Bytes) → IsCut file first others → reading_of file ≡ replayed 2 first (ended_lines others)
reading_cut file first others cut = reading_as file first (ended_lines others) (ended-cut file first others cut)

-- whether a record stands among the lines that are left
pub any_none : (text : Bytes) → IsOneLine text → list_any is_record (ended_lines text) ≡ false
any_none text one = ap (list_any is_record) (ended-one_line text one)

pub any_here : (text line rest : Bytes) → IsCut text line rest → is_record line ≡ true → list_any is_record (ended_lines text) ≡ true
any_here text line rest cut is = ap (list_any is_record) (ended-cut text line rest cut) ∙ or_left (is_record line) (list_any is_record (ended_lines rest)) is

pub any_later : (text line rest : Bytes) → IsCut text line rest → is_record line ≡ false → list_any is_record (ended_lines text) ≡ list_any is_record (ended_lines rest)
any_later text line rest cut other = ap (list_any is_record) (ended-cut text line rest cut) ∙ ap (λ t. t || list_any is_record (ended_lines rest)) other
