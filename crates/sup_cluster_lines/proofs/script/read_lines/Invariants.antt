use Rattle.std.proofs.Common.{◌≡◌, drop}
use Rattle.sup_cluster_lines.specs.Script.{all_behind}
use Rattle.sup_cluster_lines.specs.Scripts.{asked_in, numbered}
use Rattle.sup_cluster_lines.proofs.script.read_lines.Given as goal

abbrev pub invariant-loop-line : goal.invariant-loop-line
invariant-loop-line l =
    (l.script.nodes.items ≡ l.initial.script.nodes.items) × (all_behind l.initial.script.nodes.items (asked_in l.script) (numbered (drop l.line-index l.lines)) ≡ all_behind l.initial.script.nodes.items (asked_in l.initial.script) (numbered l.lines))
