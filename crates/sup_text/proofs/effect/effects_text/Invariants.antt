use Rattle.std.proofs.Common.{◌≡◌, take, string_bytes}
use Rattle.std.specs.List.{flat_map}
use Rattle.sup_text.specs.Answers.{effect_text}
use Rattle.sup_text.proofs.effect.effects_text.Given as goal

abbrev pub invariant-loop-effect : goal.invariant-loop-effect
invariant-loop-effect l = string_bytes l.text ≡ flat_map (effect_text l.at) (take l.effect-index l.effects)
