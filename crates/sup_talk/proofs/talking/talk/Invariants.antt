use Rattle.std.proofs.Common.{◌≡◌, ◌-◌, List, length}
use Rattle.sup_talk.specs.Talking.{Turn, Talks}
use Rattle.sup_talk.proofs.talking.talk.Given as goal

abbrev pub invariant-loop-lines : goal.invariant-loop-lines
invariant-loop-lines g l = (turns : List (Turn _)) × Talks g.T.Answerer.answers g.T.Answerer.shows g.T.Answerer.over 67108864 l.fn.answerer l.answerer
    (g.H.Host.seen l.fn.host) (g.H.Host.seen l.host) turns × (length turns ≡ l.lines)

abbrev pub decreases-loop-lines : goal.decreases-loop-lines
decreases-loop-lines g l = 18446744073709551615 - l.lines
