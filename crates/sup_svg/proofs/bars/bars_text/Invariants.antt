use Rattle.std.proofs.Common.{◌≡◌, take, string_bytes}
use Rattle.std.specs.List.{flat_map}
use Rattle.sup_svg.specs.Pieces.{bar_text}
use Rattle.sup_svg.proofs.bars.bars_text.Given as goal

abbrev pub invariant-loop-bar : goal.invariant-loop-bar
invariant-loop-bar l = string_bytes l.text ≡ flat_map (bar_text l.grid l.nodes l.children l.rows) (take l.bar-index l.bars)
