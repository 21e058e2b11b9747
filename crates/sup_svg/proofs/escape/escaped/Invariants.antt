use Rattle.std.proofs.Common.{◌≡◌, take, string_bytes}
use Rattle.std.specs.List.{flat_map}
use Rattle.sup_svg.specs.Escapes.{escape_of}
use Rattle.sup_svg.proofs.escape.escaped.Given as goal

abbrev pub invariant-loop-byte : goal.invariant-loop-byte
invariant-loop-byte l = string_bytes l.escaped ≡ flat_map escape_of (take l.byte-index l.text)
