use Rattle.std.proofs.Common.{◌≡◌, take, string_bytes}
use Rattle.std.specs.List.{flat_map}
use Rattle.sup_svg.specs.Pieces.{gap_text}
use Rattle.sup_svg.proofs.lanes.gaps_text.Given as goal

abbrev pub invariant-loop-gap : goal.invariant-loop-gap
invariant-loop-gap l = string_bytes l.text ≡ flat_map (gap_text l.grid l.nodes l.rows) (take l.gap-index l.gaps)
