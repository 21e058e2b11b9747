use Rattle.sup_talk.proofs.MoreTurns.{turn-of}
use Rattle.sup_talk.proofs.talking.talk_once.Goals as goal

pub returns-in-Ok : goal.returns-in-Ok
returns-in-Ok g c = turn-of g.T.Answerer.answers g.T.Answerer.shows g.T.Answerer.lacks 67108864 _ _ (g.H.Host.seen c.args.host.now) (g.H.Host.seen c.reply.new.host) (g.H.Host.seen c.tell.new.self)
    c.in_ok-text.field-0 c.in-Some.text c.as_slice.result.now c.keeper.result.now c.in_ok-text.ensures c.in-Some.is c.as_slice.ensures.value c.keeper.ensures c.in-Ok.ensures
