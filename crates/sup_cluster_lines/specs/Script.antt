-- A script of a run of threads: its nodes, its links and then its commands, and the number of the first bad line (this project's script format).
use Rattle.std.specs.Prelude.{ℕ, Bool, ◌&&◌, List, [], ◌∷◌, ◌++◌, Option, Some, None, Result, Ok, Err, if◌then◌else◌, codes}
use Rattle.std.specs.Str.{bytes_eq}
use Rattle.std.specs.List.{list_any}
use Rattle.sup_plan.specs.declared.plan.Command.{Command}
use Rattle.sup_lines.specs.Words.{Word, Name, ◌>>=◌}
use Rattle.sup_lines.specs.Script.{is_plain, words_of, line_of, numbered_lines}
use Rattle.sup_cluster_lines.specs.Nodes.{opening_of}
use Rattle.sup_cluster_lines.specs.Links.{Link, link_of, link_in}
use Rattle.sup_cluster_lines.specs.Commands.{command_of}
use Rattle.sup_cluster_lines.specs.declared.line.PlanLine.{PlanLine}
use Rattle.sup_cluster_lines.specs.declared.line.PlanLine.TheVariants as code

-- what a line after that of the nodes says
pub data Said : Type 0 where
  link : Link → Said
  command : Command → Said

abbrev pub said_in : PlanLine → Said
said_in (code.Link route) = link (link_in route)
said_in (code.Command given) = command given

abbrev pub linked : Option Link → Option Said
linked None = None
linked (Some l) = Some (link l)

abbrev pub commanded : Option Command → Option Said
commanded None = None
commanded (Some c) = Some (command c)

-- link FROM TO VERDICT.., or else a command
unfoldable pub words_say : List Name → List ℕ → List Word → Option Said
words_say nodes bytes [] = None
words_say nodes bytes (verb ∷ words) =
    if bytes_eq verb (codes "link") then linked (link_of nodes words) else commanded (line_of bytes >>= command_of nodes)

unfoldable pub said_of : List Name → List ℕ → Option Said
said_of nodes bytes = if is_plain bytes then words_say nodes bytes (words_of bytes) else None

-- links, and commands
abbrev pub Asked : Type 0
Asked = List Link × List Command

-- between the same two nodes, in the same direction
abbrev pub is_same_pair : Link → Link → Bool
is_same_pair a b = bytes_eq a.0 b.0 && bytes_eq a.1.0 b.1.0

-- what a line says, behind what was asked before: a link stands before the first command, and each pair has one at most
abbrev pub behind : Asked → Said → Option Asked
behind (links, []) (link l) = if list_any (is_same_pair l) links then None else Some (links ++ l ∷ [], [])
behind (links, first ∷ commands) (link l) = None
behind (links, commands) (command c) = Some (links, commands ++ c ∷ [])

-- what is asked once a line was read, and then the lines behind it; or the number of the first bad one
abbrev pub after_line : {A : Type 0} → ℕ → Option A → (A → Result A ℕ) → Result A ℕ
after_line number None others = Err number
after_line number (Some asked) others = others asked

abbrev pub all_behind : List Name → Asked → List (ℕ × List ℕ) → Result Asked ℕ
all_behind nodes asked [] = Ok asked
all_behind nodes asked (line ∷ lines) = after_line line.0 (said_of nodes line.1 >>= behind asked) (λ next. all_behind nodes next lines)

abbrev pub with_nodes : List Name → Result Asked ℕ → Result (List Name × Asked) ℕ
with_nodes nodes (Ok asked) = Ok (nodes, asked)
with_nodes nodes (Err number) = Err number

abbrev pub opened : ℕ → Option (List Name) → List (ℕ × List ℕ) → Result (List Name × Asked) ℕ
opened number None lines = Err number
opened number (Some nodes) lines = with_nodes nodes (all_behind nodes ([], []) lines)

-- what these lines ask for; 0 where there is none
abbrev pub lines_say : List (ℕ × List ℕ) → Result (List Name × Asked) ℕ
lines_say [] = Err 0
lines_say (line ∷ lines) = opened line.0 (opening_of line.1) lines

-- the nodes, links and commands that the bytes say, or the number of the first bad line, 0 where all lines are skipped
abbrev pub plan_script_of : List ℕ → Result (List Name × Asked) ℕ
plan_script_of bytes = lines_say (numbered_lines bytes)
