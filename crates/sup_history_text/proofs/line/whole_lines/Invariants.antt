use Rattle.std.proofs.Common.{◌≡◌, ◌+◌, ◌++◌, drop}
use Rattle.std.specs.List.{enumerate_from}
use Rattle.sup_history_text.specs.Lines.{lines_in, numbered, texts, whole_lines}
use Rattle.sup_history_text.proofs.line.whole_lines.Given as goal

abbrev pub invariant-loop-index : goal.invariant-loop-index
invariant-loop-index l = lines_in l.whole.items ++ whole_lines (enumerate_from (l.index + 1) (texts (drop l.index l.line-items))) ≡ whole_lines (numbered l.bytes)
