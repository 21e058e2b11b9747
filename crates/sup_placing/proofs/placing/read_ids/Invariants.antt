use Rattle.std.proofs.Common.{◌≡◌, drop, map}
use Rattle.sup_lines.specs.Script.{each_of}
use Rattle.sup_placing.specs.Placing.{id_in}
use Rattle.sup_lines.proofs.Loops.{after_lines}
use Rattle.sup_placing.proofs.placing.read_ids.Given as goal

abbrev pub invariant-loop-line : goal.invariant-loop-line
invariant-loop-line l = after_lines l.ids.items (each_of id_in (map (λ x. (x.number, x.bytes.now)) (drop l.line-index l.lines))) ≡ each_of id_in (map (λ x. (x.number, x.bytes.now)) l.lines)
