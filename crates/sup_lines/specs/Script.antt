-- A script: its lines, and the number of the first bad one (this project's script format).
use Rattle.std.specs.Prelude.{◌≡◌, ℕ, Bool, true, not, ◌&&◌, ◌||◌, ◌==◌, nat_le, List, [], ◌∷◌, length, slice_index, filter, Option, Some, None, Result, Ok, Err, if◌then◌else◌}
use Rattle.std.specs.List.{slice_split, enumerate_from, list_all}
use Rattle.sup_lines.specs.Words.{Word, Name, ReadsWhere}
use Rattle.sup_lines.specs.Opening.{nodes_within}
use Rattle.sup_lines.specs.Lines.{form_of}
use Rattle.sup_lines.specs.declared.line.Line.{Line}
use Rattle.sup_lines.specs.declared.fault.LineFault.{LineFault}
use Rattle.sup_lines.specs.declared.fault.LineFault.TheVariants as fault
use Rattle.sup_lines.specs.declared.fault.ScriptFault.{ScriptFault}
use Rattle.sup_lines.specs.declared.fault.ScriptFault.TheVariants.{BadLine, OutOfMemory}

-- the lines between line feeds (10); what stands after the last line feed is a line too
abbrev pub lines_of : List ℕ → List (List ℕ)
lines_of bytes = slice_split (λ byte. byte == 10) bytes

-- empty, or a comment: it begins with # (35)
abbrev pub is_skipped : List ℕ → Bool
is_skipped line = length line == 0 || slice_index line 0 == 35

-- from a space (32) to ~ (126)
abbrev pub is_plain : List ℕ → Bool
is_plain line = list_all (λ byte. nat_le 32 byte && nat_le byte 126) line

-- words stand between single spaces (32), so two spaces have an empty word between them
abbrev pub words_of : List ℕ → List Word
words_of line = slice_split (λ byte. byte == 32) line

-- what the bytes of a line after the first ask for
unfoldable pub line_of : List ℕ → Option Line
line_of bytes = if is_plain bytes then form_of (words_of bytes) else None

-- the nodes that the bytes of a first line say, at least and at most so many
unfoldable pub opening_within : ℕ → ℕ → List ℕ → Option (List Name)
opening_within least most bytes = if is_plain bytes then nodes_within least most (words_of bytes) else None

-- the nodes that the bytes of the first line say, 1 to 16 distinct ones
abbrev pub opening_of : List ℕ → Option (List Name)
opening_of bytes = opening_within 1 16 bytes

-- the fault of a script whose line of this number was not read
abbrev pub fault_at : ℕ → LineFault → ScriptFault
fault_at number fault.Bad = BadLine number
fault_at number fault.OutOfMemory = OutOfMemory

-- each line that isn't skipped, behind its number from 1; skipped lines are counted
abbrev pub numbered_lines : List ℕ → List (ℕ × List ℕ)
numbered_lines bytes = filter (λ l. not (is_skipped l.1)) (enumerate_from 1 (lines_of bytes))

-- what a line says, in front of what the lines after it say; else the line's number
abbrev pub in_front : {A : Type 0} → ℕ → Option A → Result (List A) ℕ → Result (List A) ℕ
in_front number None others = Err number
in_front number (Some said) (Ok others) = Ok (said ∷ others)
in_front number (Some said) (Err later) = Err later

-- what each of these lines says, or the number of the first bad one
abbrev pub each_of : {A : Type 0} → (List ℕ → Option A) → List (ℕ × List ℕ) → Result (List A) ℕ
each_of read [] = Ok []
each_of read (line ∷ lines) = in_front line.0 (read line.1) (each_of read lines)

abbrev pub behind : {A B : Type 0} → ℕ → Option A → Result (List B) ℕ → Result (A × List B) ℕ
behind number None others = Err number
behind number (Some first) (Ok others) = Ok (first, others)
behind number (Some first) (Err later) = Err later

-- what the first of these lines says, and each line after it; 0 where there is none
abbrev pub opened : {A B : Type 0} → (List ℕ → Option A) → (List ℕ → Option B) → List (ℕ × List ℕ) → Result (A × List B) ℕ
opened read_first read [] = Err 0
opened read_first read (line ∷ lines) = behind line.0 (read_first line.1) (each_of read lines)

-- the nodes of a script, and the lines after them
abbrev pub ScriptText : Type 0
ScriptText = List Name × List Line

-- the script that the bytes say, or the number of the first bad line, 0 where all lines are skipped
abbrev pub script_of : List ℕ → Result ScriptText ℕ
script_of bytes = opened opening_of line_of (numbered_lines bytes)

-- What was answered is what reading the line gives, unless memory was refused, to list its words or to what they say. A line that isn't plain is always bad.
abbrev pub ReadsLine : {X Y : Type 0} → (X → Y) → List ℕ → Result X LineFault → Option Y → Type 0
ReadsLine view line result read = ReadsWhere view (is_plain line ≡ true) result read

-- What was answered is what reading gives, unless memory was refused.
abbrev pub ReadsAll : {X Y : Type 0} → (X → Y) → Result X ScriptFault → Result Y ℕ → Type 0
ReadsAll view (Ok x) read = read ≡ Ok (view x)
ReadsAll view (Err (BadLine number)) read = read ≡ Err number
ReadsAll view (Err OutOfMemory) read = Unit {0}
