use Rattle.std.proofs.Common.{sym, ◌∙◌}
use Rattle.sup_talk.proofs.MoreTurns.{Talks-round}
use Rattle.sup_talk.proofs.talking.talk.Goals as goal

pub loop-lines-preserved : goal.loop-lines-preserved
loop-lines-preserved g c = Talks-round g.T.Answerer.answers g.T.Answerer.shows g.T.Answerer.lacks g.T.Answerer.over 67108864 _ c.loop-lines.answerer c.talk_once.new.answerer
    (g.H.Host.seen c.args.host.now) (g.H.Host.seen c.loop-lines.host) (g.H.Host.seen c.talk_once.new.host) c.loop-lines.lines
    c.in_ok-talk_once.field-0 c.loop-lines.invariant (sym c.is_over.ensures ∙ c.if-is_over.false) c.if-not-branch.false c.in_ok-talk_once.ensures
