-- Options of a line, in a given order (this project's script format).
use Rattle.std.specs.Prelude.{nat_eq, List, [], ◌∷◌, length, drop, Option, Some, None, ℕ, if◌then◌else◌, codes}
use Rattle.std.specs.Option.{option_map_or}
use Rattle.std.specs.List.{starts_with}
use Rattle.std.specs.Str.{bytes_eq}
use Rattle.sup_specs.specs.declared.child.ChildSpec.{ChildSpec}
use Rattle.sup_specs.specs.Values.{Bytes}
use Rattle.sup_lines.specs.Words.{Word, ◌>>=◌}
use Rattle.sup_lines.specs.Values.{child_id_of, kind_of, text_of, restart_of, shutdown_of}

-- what stands after the key that a word begins with
unfoldable pub value_after : List ℕ → Word → Option Word
value_after key word = if starts_with nat_eq word key then Some (drop (length key) word) else None

-- an option's value where its key begins the next word, else what it is by default; and the words after it
unfoldable pub option_at : List ℕ → Word → List Word → Word × List Word
option_at key default [] = (default, [])
option_at key default (word ∷ words) = option_map_or (λ value. (value, words)) (value_after key word) (default, word ∷ words)

-- the word behind a key where that is the next word; and the words after both
unfoldable pub word_behind : Word → List Word → Option Word × List Word
word_behind key (first ∷ second ∷ words) = if bytes_eq first key then (Some second, words) else (None, first ∷ second ∷ words)
word_behind key words = (None, words)

-- a word that may be left out
abbrev pub if_there : {A : Type 0} → (Word → Option A) → Option Word → Option (Option A)
if_there read None = Some None
if_there read (Some word) = do
  value ← read word
  Some (Some value)

-- [label=TEXT], and the words after it
unfoldable pub label_of : List Word → Option (Bytes × List Word)
label_of words = do
  let label_word = option_at (codes "label=") [] words
  label ← text_of label_word.0
  Some (label, label_word.1)

-- [kind=K] [arg=TEXT] [restart=R] [shutdown=S], in this order, and the words after them
unfoldable pub spec_of : List Word → Option (ChildSpec × List Word)
spec_of words = do
  let kind_word = option_at (codes "kind=") (codes "worker") words
  let arg_word = option_at (codes "arg=") [] kind_word.1
  let restart_word = option_at (codes "restart=") (codes "permanent") arg_word.1
  let shutdown_word = option_at (codes "shutdown=") (codes "5000") restart_word.1
  kind ← kind_of kind_word.0
  arg ← text_of arg_word.0
  restart ← restart_of restart_word.0
  shutdown ← shutdown_of shutdown_word.0
  Some (record { kind = kind; arg = arg; restart = restart; shutdown = shutdown }, shutdown_word.1)

-- ID and the options of a specification, and the words after them
unfoldable pub child_of : List Word → Option ((Word × ChildSpec) × List Word)
child_of (word ∷ options) = do
  id ← child_id_of word
  spec ← spec_of options
  Some ((id, spec.0), spec.1)
child_of _ = None
