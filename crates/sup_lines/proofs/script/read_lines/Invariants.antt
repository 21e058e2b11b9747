use Rattle.std.proofs.Common.{◌≡◌, drop, map}
use Rattle.sup_lines.specs.Script.{each_of, line_of}
use Rattle.sup_lines.proofs.Loops.{after_lines}
use Rattle.sup_lines.proofs.script.read_lines.Given as goal

abbrev pub invariant-loop-line : goal.invariant-loop-line
invariant-loop-line l =
    after_lines l.read.items (each_of line_of (map (λ x. (x.number, x.bytes.now)) (drop l.line-index l.lines))) ≡ each_of line_of (map (λ x. (x.number, x.bytes.now)) l.lines)
