-- Scripts as they are read, line by line (this project).
use Rattle.std.specs.Prelude.{◌≡◌, ℕ, List, map, Some, None, Result, Ok, Err}
use Rattle.sup_lines.specs.Words.{Name, ◌>>=◌}
use Rattle.sup_lines.specs.declared.fault.LineFault.{LineFault}
use Rattle.sup_lines.specs.declared.fault.LineFault.TheVariants.{Bad, OutOfMemory}
use Rattle.sup_lines.specs.declared.fault.ScriptFault.{ScriptFault}
use Rattle.sup_lines.specs.declared.fault.ScriptFault.TheVariants.{BadLine, OutOfMemory as NoMemory}
use Rattle.sup_lines.specs.declared.numbered.NumberedLine.{NumberedLine}
use Rattle.sup_cluster_lines.specs.Links.{link_in}
use Rattle.sup_cluster_lines.specs.Script.{Asked, behind, said_of}
use Rattle.sup_cluster_lines.specs.declared.script.PlanScript.{PlanScript}

-- what a script asks for
abbrev pub asked_in : PlanScript → Asked
asked_in script = (map link_in script.links.items, script.commands.items)

-- a line was taken in behind what was asked before; it is told bad only where it doesn't fit there, and what is refused isn't kept
abbrev pub TakesIn : {A : Type 0} → List Name → Asked → List ℕ → Result A LineFault → Asked → Type 0
TakesIn nodes asked bytes (Ok _) new = (said_of nodes bytes >>= behind asked) ≡ Some new
TakesIn nodes asked bytes (Err Bad) new = ((said_of nodes bytes >>= behind asked) ≡ None) × (new ≡ asked)
TakesIn nodes asked bytes (Err OutOfMemory) new = new ≡ asked

-- a fault of the line of this number, as one of the script
abbrev pub of_line : ℕ → LineFault → ScriptFault
of_line number Bad = BadLine number
of_line number OutOfMemory = NoMemory

abbrev pub numbered : List NumberedLine → List (ℕ × List ℕ)
numbered = map (λ l. (l.number, l.bytes.now))
