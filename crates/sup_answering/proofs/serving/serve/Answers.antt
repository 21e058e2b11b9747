use Rattle.std.proofs.Common.{inl, inr, refl}
use Rattle.sup_station.specs.KeptStations.{keeper_of, kept_station_of}
use Rattle.sup_answering.specs.AnsweringNodes.{known, AnswersLine, LacksLine}
use Rattle.sup_answering.specs.ServedHosts.{StandsBehind}
use Rattle.sup_answering.proofs.TalkStateLaws.{talks-as}
use Rattle.sup_answering.proofs.serving.serve.Goals as goal

pub returns-in-Ok : goal.returns-in-Ok
returns-in-Ok g c = inl (
  g.H.Host.seen c.tell.new.self,
  c.keeper.result.now,
  c.keeper.ensures,
  c.in-Ok.ensures,
  talks-as c.args.filter.now c.talk.new.answerer (λ f. known f.name (kept_station_of g.K.Keeper.kept f.station) f.peers.items (g.K.Keeper.failures (keeper_of f.station)) (g.K.ImageKeeper.lost (keeper_of f.station)))
      (λ a heard text b. AnswersLine g.W.Weigh.weight_of a heard text b) (λ a keeper. StandsBehind g.K.Keeper.kept g.K.Keeper.failures g.K.ImageKeeper.lost a keeper)
      (λ a heard b. LacksLine g.W.Weigh.weight_of a heard b) (λ k. k.lost) 67108864 _ _ _ c.talk.ensures,
)

pub returns-in-Err : goal.returns-in-Err
returns-in-Err g c = inr (refl, refl, c.keeper.result.now, c.keeper.ensures, c.in-Err.ensures)
