-- The first line of a script, which names the nodes (this project's script format).
use Rattle.std.specs.Prelude.{ℕ, Bool, true, not, ◌&&◌, nat_le, List, [], ◌∷◌, length, Option, Some, None, if◌then◌else◌, codes}
use Rattle.std.specs.Str.{bytes_eq}
use Rattle.std.specs.List.{list_any}
use Rattle.sup_lines.specs.Words.{Word, Name, ◌>>=◌}
use Rattle.sup_lines.specs.Values.{node_name_of}

-- each word, read as a name
abbrev pub names_of : List Word → Option (List Name)
names_of [] = Some []
names_of (word ∷ words) = do
  name ← node_name_of word
  names ← names_of words
  Some (name ∷ names)

-- no name stands twice
abbrev pub are_distinct : List Name → Bool
are_distinct [] = true
are_distinct (name ∷ names) = not (list_any (λ other. bytes_eq other name) names) && are_distinct names

abbrev pub if_distinct : List Name → Option (List Name)
if_distinct names = if are_distinct names then Some names else None

-- each word, read as a name, where no name stands twice
abbrev pub distinct_names_of : List Word → Option (List Name)
distinct_names_of words = names_of words >>= if_distinct

-- nodes NAME.., distinct names, at least and at most so many
abbrev pub nodes_within : ℕ → ℕ → List Word → Option (List Name)
nodes_within least most [] = None
nodes_within least most (verb ∷ words) =
    if bytes_eq verb (codes "nodes") && nat_le least (length words) && nat_le (length words) most
    then distinct_names_of words else None
