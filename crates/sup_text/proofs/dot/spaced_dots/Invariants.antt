use Rattle.std.proofs.Common.{◌≡◌, take, string_bytes}
use Rattle.std.specs.List.{flat_map}
use Rattle.sup_text.specs.Words.{spaced_dot}
use Rattle.sup_text.proofs.dot.spaced_dots.Given as goal

abbrev pub invariant-loop-dot : goal.invariant-loop-dot
invariant-loop-dot l = string_bytes l.text ≡ flat_map spaced_dot (take l.dot-index l.dots)
