use Rattle.std.proofs.Common.{◌∙◌, true, None, Ok, ap, sym, subst}
use Rattle.sup_specs.specs.Values.{Bytes}
use Rattle.sup_replica.specs.declared.done.Reply.TheVariants.{Boot}
use Rattle.sup_station.specs.KeptStations.{keeper_of, kept_station_of}
use Rattle.sup_told.specs.Told.{told_text}
use Rattle.sup_answering.specs.AnsweringNodes.{RisesWhere}
use Rattle.sup_answering.specs.BegunNodes.{IsNoBegin, IsUnkept, stopped}
use Rattle.sup_answering.specs.declared.begin.BeginFault.{BeginFault}
use Rattle.sup_answering.proofs.UnbegunNodeLaws.{begins_with, counted, leaves_begun, leaves_old, standing_same, unanswered, uncounted, unlacking}
use Rattle.sup_answering.proofs.begin.open.Goals as goal

pub returns-in-Err-clause-fault : goal.returns-in-Err-clause-fault
returns-in-Err-clause-fault g c =
    subst (λ (f : BeginFault). IsNoBegin g.W.Weigh.weight_of true c.args.name c.args.config (g.K.Keeper.kept c.args.keeper) f) (sym c.unopened.ensures.fault) c.in-Err.ensures.reason

pub returns-in-Err-clause-leaves : goal.returns-in-Err-clause-leaves
returns-in-Err-clause-leaves g c =
    leaves_old g.W.Weigh.weight_of true c.args.name c.args.config (g.K.Keeper.kept c.args.keeper) (g.K.Keeper.found c.args.keeper) c.unopened.result.fault _
    (standing_same _ _ (c.unopened.ensures.station ∙ ap (λ (kept : Bytes). stopped c.args.name c.args.config kept) c.in-Err.ensures.refused) (ap g.K.Keeper.found c.unopened.ensures.keeper ∙ c.in-Err.ensures.unput)) (λ e. absurd (unlacking _ _ c.unopened.ensures.fault e))

pub returns-in-Err-clause-counted : goal.returns-in-Err-clause-counted
returns-in-Err-clause-counted g c =
    let failures = g.K.Keeper.failures in let refused = c.in-Err.ensures in
    subst (λ k. RisesWhere (IsUnkept c.unopened.result.fault) (failures c.args.keeper) (failures k)) (sym c.unopened.ensures.keeper)
    (counted c.unopened.result.fault _ _ _ (λ r e. cc) (λ _. c.unopened.ensures.fault) refused.rose refused.told refused.never_falls refused.by_one)

pub returns-clause-begins : goal.returns-clause-begins
returns-clause-begins g c =
    begins_with g.W.Weigh.weight_of true c.args.name c.args.config (g.K.Keeper.kept c.args.keeper) (λ b. b.filter.station) (λ b. b.first.items) (λ s. kept_station_of g.K.Keeper.kept s)
    c.in-Ok.station _ c.begun_with.result (c.in-Ok.ensures.opens, ap (λ effects. told_text (Ok (record { reply = Boot 1; effects = effects; out = None }))) (c.new-3.ensures ∙ c.new-2.ensures.items)) c.begun_with.ensures.station c.begun_with.ensures.first

pub returns-clause-fault : goal.returns-clause-fault
returns-clause-fault g c =
    unanswered g.W.Weigh.weight_of true c.args.name c.args.config (g.K.Keeper.kept c.args.keeper) (λ u. u.fault) c.begun_with.result c.begun_with.ensures.fault

pub returns-clause-leaves : goal.returns-clause-leaves
returns-clause-leaves g c =
    leaves_begun g.W.Weigh.weight_of true c.args.name c.args.config (g.K.Keeper.kept c.args.keeper) (g.K.Keeper.found c.args.keeper) (λ u. u.fault) (λ u. u.station) (λ s. kept_station_of g.K.Keeper.kept s)
    (λ s. g.K.Keeper.found (keeper_of s))
    c.in-Ok.station _ c.begun_with.result (c.in-Ok.ensures.opens, ap (λ effects. told_text (Ok (record { reply = Boot 1; effects = effects; out = None }))) (c.new-3.ensures ∙ c.new-2.ensures.items)) c.begun_with.ensures.fault c.begun_with.ensures.left

pub returns-clause-counted : goal.returns-clause-counted
returns-clause-counted g c =
    uncounted (λ u. u.fault) (λ u. u.station) (λ x. g.K.Keeper.failures (keeper_of x)) (g.K.Keeper.failures c.args.keeper) c.in-Ok.station c.begun_with.result
    c.in-Ok.ensures.uncounted c.begun_with.ensures.fault c.begun_with.ensures.left
