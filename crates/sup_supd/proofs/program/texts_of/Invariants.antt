use Rattle.std.proofs.Common.{◌≡◌, map, take, string_bytes}
use Rattle.sup_lines.specs.Words.{texts}
use Rattle.sup_supd.proofs.program.texts_of.Given as goal

abbrev pub invariant-loop-word : goal.invariant-loop-word
invariant-loop-word l = texts l.texts.items ≡ map string_bytes (take l.word-index l.words)
