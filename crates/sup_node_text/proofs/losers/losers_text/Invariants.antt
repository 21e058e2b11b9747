use Rattle.std.proofs.Common.{◌≡◌, take, string_bytes}
use Rattle.std.specs.List.{flat_map}
use Rattle.sup_node_text.specs.Lines.{loser_line}
use Rattle.sup_node_text.proofs.losers.losers_text.Given as goal

abbrev pub invariant-loop-loser : goal.invariant-loop-loser
invariant-loop-loser g l = string_bytes l.text ≡ flat_map (λ x. loser_line l.table l.key x.dot.now) (take l.loser-index l.losers)
