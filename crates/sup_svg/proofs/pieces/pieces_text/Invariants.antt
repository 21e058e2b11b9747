use Rattle.std.proofs.Common.{◌≡◌, take, string_bytes}
use Rattle.std.specs.List.{flat_map}
use Rattle.sup_svg.proofs.pieces.pieces_text.Given as goal

abbrev pub invariant-loop-piece : goal.invariant-loop-piece
invariant-loop-piece g l = string_bytes l.text ≡ flat_map (g.P.Piece.drawn l.grid l.nodes) (take l.piece-index l.pieces)
