use Rattle.std.proofs.Common.{ap, ◌∙◌}
use Rattle.sup_station.specs.OpenedStations.{kept_by}
use Rattle.sup_station.specs.KeptStations.{kept_station_of}
use Rattle.sup_world.specs.CarriedSteps.{holds}
use Rattle.sup_world.specs.SeenNodes.{seen_node_of, numbered}
use Rattle.sup_world.proofs.CarriedActLaws.{refused_as, answered_as}
use Rattle.sup_world.proofs.simulated_node.SimulatedNode.act.Goals as goal

pub returns-in_err-done-clause-stands : goal.returns-in_err-done-clause-stands
returns-in_err-done-clause-stands g c = let s = seen_node_of c.args.self.now in
    λ post mail h reads. refused_as g.W.Weigh.weight_of s post mail c.args.act.now c.args.now (holds c.args.saves s.failures) h reads
    c.from_residual.result c.in_err-done.field-0.0 (kept_station_of kept_by c.carry.new.station) _ c.carry.new.letters.items c.from_residual.ensures.1 c.in_err-done.ensures.unsent c.in_err-done.ensures.acts

pub returns-clause-stands : goal.returns-clause-stands
returns-clause-stands g c = let s = seen_node_of c.args.self.now in
    λ post mail h reads. answered_as g.W.Weigh.weight_of s post mail c.args.act.now c.args.now (holds c.args.saves s.failures) h reads
    c.in_ok-done.done c.number_in-number.result (kept_station_of kept_by c.carry.new.station) _ c.carry.new.letters.items c.in_ok-done.ensures.sent
    (c.number_in-number.ensures ∙ ap (λ ls. numbered ls c.in_ok-done.done.out) c.deref.ensures.value) c.in_ok-done.ensures.acts
