use Rattle.std.proofs.Common.{◌≡◌, take, string_bytes}
use Rattle.std.specs.List.{flat_map}
use Rattle.sup_text.specs.Answers.{effect_text}
use Rattle.sup_text.proofs.settled.effects_by_node.Given as goal

abbrev pub invariant-loop-at : goal.invariant-loop-at
invariant-loop-at l = string_bytes l.text ≡ flat_map (λ e. effect_text e.0 e.1) (take l.at-index l.effects)
