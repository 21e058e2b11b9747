use Rattle.std.proofs.Common.{◌≡◌, refl}
use Rattle.std.proofs.lemmas.List.Elements.{All-more}
use Rattle.sup_history_text.specs.Kinds.{kind_of}
use Rattle.sup_history_text.specs.declared.kinds.LineKind.TheVariants.{Told}
use Rattle.sup_history_text.proofs.OnlyBeginLaws.{no_line}
use Rattle.sup_history_text.proofs.answer.told_count.Goals as goal

pub loop-index-preserved : goal.loop-index-preserved
loop-index-preserved c = All-more (λ line. kind_of line.bytes.now ≡ Told) c.args.lines.now c.loop-index.index no_line c.loop-index-test.true c.loop-index.invariant (c.if-not-is.ensures.0 refl)
