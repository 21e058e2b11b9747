use Rattle.std.proofs.Common.{◌≡◌, ◌≤◌, ◌-◌, length}
use Rattle.std.specs.Io.KnownBytes.{Keeps}
use Rattle.sup_talk.proofs.line.take_byte.Given as goal

abbrev pub invariant-loop-byte : goal.invariant-loop-byte
invariant-loop-byte g l = (length l.byte ≡ 1) × Keeps (g.R.Read.remaining l.fn.reader) (g.R.Read.remaining l.reader)
    × (l.questions.most ≡ l.fn.questions.most) × (l.fn.questions.asked ≤ l.questions.asked)

abbrev pub decreases-loop-byte : goal.decreases-loop-byte
decreases-loop-byte g l = l.questions.most - l.questions.asked
