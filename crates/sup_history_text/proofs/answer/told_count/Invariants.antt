use Rattle.std.proofs.Common.{◌≡◌, All, take}
use Rattle.sup_history_text.specs.Kinds.{kind_of}
use Rattle.sup_history_text.specs.declared.kinds.LineKind.TheVariants.{Told}
use Rattle.sup_history_text.proofs.answer.told_count.Given as goal

abbrev pub invariant-loop-index : goal.invariant-loop-index
invariant-loop-index l = All (λ line. kind_of line.bytes.now ≡ Told) (take l.index l.lines)
