use Rattle.std.proofs.Common.{◌≡◌, take, string_bytes}
use Rattle.sup_placing.specs.Placing.{placing_text}
use Rattle.sup_placing.proofs.text.placing_text.Given as goal

abbrev pub invariant-loop-id : goal.invariant-loop-id
invariant-loop-id g l = string_bytes l.text ≡ placing_text g.G.Weigh.weight_of (l.members, take l.id-index l.ids)
