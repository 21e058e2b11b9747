use Rattle.std.proofs.Common.{◌∙◌, ap}
use Rattle.sup_station.specs.KeptStations.{kept_station_of}
use Rattle.sup_answering.proofs.UnbegunNodeLaws.{no_begin, unrefused}
use Rattle.sup_answering.proofs.begin.restart_fault.Goals as goal

pub returns-in-BadMessage-clause-fault : goal.returns-in-BadMessage-clause-fault
returns-in-BadMessage-clause-fault g c =
    no_begin g.W.Weigh.weight_of (kept_station_of g.K.Keeper.kept c.args.station.now) _ c.image_fault.result (rw c.in-BadMessage.is at c.requires)
    (c.stored.ensures ∙ ap g.K.Keeper.kept c.keeper.ensures) c.image_fault.ensures

pub returns-in-BadMessage-clause-same : goal.returns-in-BadMessage-clause-same
returns-in-BadMessage-clause-same g c = λ r e. absurd (unrefused _ c.image_fault.result r c.image_fault.ensures e)

pub returns-in_default-clause-fault : goal.returns-in_default-clause-fault
returns-in_default-clause-fault g c = (c.in_default.not-BadMessage, c.requires)
