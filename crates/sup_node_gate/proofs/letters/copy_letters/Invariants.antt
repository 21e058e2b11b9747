use Rattle.std.proofs.Common.{◌≡◌, ◌++◌, drop}
use Rattle.sup_node_gate.specs.Histories.{letters_of}
use Rattle.sup_node_gate.proofs.letters.copy_letters.Given as goal

abbrev pub invariant-loop-place : goal.invariant-loop-place
invariant-loop-place l = l.letters.items ++ letters_of (drop l.place l.entries) ≡ letters_of (drop l.from l.entries)
