use Rattle.std.proofs.Common.{◌≡◌, drop}
use Rattle.sup_lines.specs.Words.{texts}
use Rattle.sup_lines.specs.Opening.{names_of}
use Rattle.sup_lines.proofs.Loops.{after_names}
use Rattle.sup_lines.proofs.opening.read_names.Given as goal

abbrev pub invariant-loop-word : goal.invariant-loop-word
invariant-loop-word l = after_names l.names.items (names_of (texts (drop l.word-index l.words))) ≡ names_of (texts l.words)
