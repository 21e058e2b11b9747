use Rattle.std.proofs.Common.{◌-◌}
use Rattle.sup_talk.proofs.Longer.{IsFront}
use Rattle.sup_talk.proofs.line.take_line.Given as goal

abbrev pub invariant-loop-reader : goal.invariant-loop-reader
invariant-loop-reader g l = IsFront (g.R.Read.remaining l.fn.reader) (g.R.Read.remaining l.reader) l.line.items l.is_long l.fn.questions l.questions

abbrev pub decreases-loop-reader : goal.decreases-loop-reader
decreases-loop-reader g l = l.questions.most - l.questions.asked
