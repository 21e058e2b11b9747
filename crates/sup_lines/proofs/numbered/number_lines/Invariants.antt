use Rattle.std.proofs.Common.{◌≡◌, ◌+◌, ◌++◌, drop, map, filter}
use Rattle.std.specs.Prelude.{not}
use Rattle.std.specs.List.{enumerate_from}
use Rattle.sup_lines.specs.Words.{texts}
use Rattle.sup_lines.specs.Script.{is_skipped, numbered_lines}
use Rattle.sup_lines.proofs.numbered.number_lines.Given as goal

abbrev pub invariant-loop-index : goal.invariant-loop-index
invariant-loop-index l =
    map (λ x. (x.number, x.bytes.now)) l.kept.items ++ filter (λ x. not (is_skipped x.1)) (enumerate_from (l.index + 1) (texts (drop l.index l.line-items))) ≡ numbered_lines l.bytes
