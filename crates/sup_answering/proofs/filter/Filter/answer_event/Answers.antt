use Rattle.std.proofs.Common.{ℕ, List, ◌∙◌, ap, sym, subst, inl, inr}
use Rattle.sup_specs.specs.Values.{Bytes}
use Rattle.sup_replica.specs.declared.event.Act.TheVariants.{Event as Of}
use Rattle.sup_station.specs.KeptStations.{AnswersAct, KeptStation, keeper_of, kept_station_of}
use Rattle.sup_answering.specs.Heard.{HearsPeers}
use Rattle.sup_answering.specs.AnsweringNodes.{IsCounted, known}
use Rattle.sup_answering.proofs.CountLaws.{rises_where}
use Rattle.sup_answering.proofs.ToldTextLaws.{done-told, done-untold}
use Rattle.sup_answering.proofs.filter.Filter.answer_event.Goals as goal

pub returns-clause-done : goal.returns-clause-done
returns-clause-done g c =
    let kept = g.K.Keeper.kept in let failures = g.K.Keeper.failures in let lost = g.K.ImageKeeper.lost in
    let s = c.args.self.now in let t = c.hear.new.self in let step = c.step-end.ensures in
    done-told g.W.Weigh.weight_of
    (known s.name (kept_station_of kept s.station) s.peers.items (failures (keeper_of s.station)) (lost (keeper_of s.station)))
    (known t.name (kept_station_of kept t.station) t.peers.items (failures (keeper_of t.station)) (lost (keeper_of t.station)))
    c.args.event c.args.now c.step-end.result c.told_text.result
    (subst (λ (k : KeptStation). AnswersAct g.W.Weigh.weight_of (kept_station_of kept s.station) (Of c.args.event) c.args.now c.step-end.result k)
    (ap (λ x. kept_station_of kept x) (sym c.hear.ensures.station)) step.goes)
    (subst (λ (n : ℕ). IsCounted c.step-end.result (failures (keeper_of s.station)) n) (ap (λ x. failures (keeper_of x)) (sym c.hear.ensures.station))
    (rises_where _ _ _ step.rose step.told step.never_falls step.by_one))
    (subst (λ (peers : List Bytes). HearsPeers (Of c.args.event) c.step-end.result peers t.peers.items) step.peers c.in_ok-hear.ensures.hears)
    (c.hear.ensures.name ∙ step.name) c.told_text.ensures

pub returns-clause-lacks : goal.returns-clause-lacks
returns-clause-lacks g c =
    let kept = g.K.Keeper.kept in let failures = g.K.Keeper.failures in let lost = g.K.ImageKeeper.lost in
    let s = c.args.self.now in let t = c.hear.new.self in let step = c.step-end.ensures in
    done-untold g.W.Weigh.weight_of
    (known s.name (kept_station_of kept s.station) s.peers.items (failures (keeper_of s.station)) (lost (keeper_of s.station)))
    (known t.name (kept_station_of kept t.station) t.peers.items (failures (keeper_of t.station)) (lost (keeper_of t.station)))
    c.args.event c.args.now c.step-end.result c.told_text.result
    (subst (λ (k : KeptStation). AnswersAct g.W.Weigh.weight_of (kept_station_of kept s.station) (Of c.args.event) c.args.now c.step-end.result k)
    (ap (λ x. kept_station_of kept x) (sym c.hear.ensures.station)) step.goes)
    (subst (λ (n : ℕ). IsCounted c.step-end.result (failures (keeper_of s.station)) n) (ap (λ x. failures (keeper_of x)) (sym c.hear.ensures.station))
    (rises_where _ _ _ step.rose step.told step.never_falls step.by_one))
    (inr (subst (λ (peers : List Bytes). HearsPeers (Of c.args.event) c.step-end.result peers t.peers.items) step.peers c.in_ok-hear.ensures.hears))
    (c.hear.ensures.name ∙ step.name)

pub returns-in_err-hear-clause-lacks : goal.returns-in_err-hear-clause-lacks
returns-in_err-hear-clause-lacks g c =
    let kept = g.K.Keeper.kept in let failures = g.K.Keeper.failures in let lost = g.K.ImageKeeper.lost in
    let s = c.args.self.now in let t = c.hear.new.self in let step = c.step-end.ensures in
    done-untold g.W.Weigh.weight_of
    (known s.name (kept_station_of kept s.station) s.peers.items (failures (keeper_of s.station)) (lost (keeper_of s.station)))
    (known t.name (kept_station_of kept t.station) t.peers.items (failures (keeper_of t.station)) (lost (keeper_of t.station)))
    c.args.event c.args.now c.step-end.result c.from_residual.result
    (subst (λ (k : KeptStation). AnswersAct g.W.Weigh.weight_of (kept_station_of kept s.station) (Of c.args.event) c.args.now c.step-end.result k)
    (ap (λ x. kept_station_of kept x) (sym c.hear.ensures.station)) step.goes)
    (subst (λ (n : ℕ). IsCounted c.step-end.result (failures (keeper_of s.station)) n) (ap (λ x. failures (keeper_of x)) (sym c.hear.ensures.station))
    (rises_where _ _ _ step.rose step.told step.never_falls step.by_one))
    (inl (c.in_err-hear.ensures.refused ∙ step.peers))
    (c.hear.ensures.name ∙ step.name)
