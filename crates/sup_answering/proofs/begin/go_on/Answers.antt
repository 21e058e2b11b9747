use Rattle.std.proofs.Common.{◌≡◌, ◌∙◌, true, false, Ok, refl, ap, sym, subst}
use Rattle.sup_replica.specs.declared.event.Act.TheVariants.{Restart}
use Rattle.sup_replica.specs.declared.refusal.Refusal.TheVariants.{KeepFailed}
use Rattle.sup_station.specs.KeptStations.{AnswersAct, KeptStation, RefusesAct, RefusesRestart, keeper_of, kept_station_of}
use Rattle.sup_answering.specs.AnsweringNodes.{RisesWhere}
use Rattle.sup_answering.specs.BegunNodes.{FailsAtSave, IsNoBegin, IsUnkept}
use Rattle.sup_answering.proofs.UnbegunNodeLaws.{begins_with, counted, leaves_begun, leaves_old, refused_bad, standing_same, unanswered, uncounted, unsaved, fails_given}
use Rattle.sup_answering.proofs.begin.go_on.Goals as goal

pub restart_fault-fault-requires : goal.restart_fault-fault-requires
restart_fault-fault-requires g c =
    let weigher = g.W.Weigh.weight_of in let goes = c.in-Err.ensures.goes in
    let refuses = subst (λ (s : KeptStation). RefusesAct weigher s s.node Restart 0 c.in-Err.refusal) c.stopped-station.ensures.still goes.1 in
    subst (λ (s : KeptStation). RefusesRestart weigher s c.in-Err.refusal) (sym (goes.0 ∙ c.stopped-station.ensures.still)) refuses

pub returns-in-Err-clause-fault : goal.returns-in-Err-clause-fault
returns-in-Err-clause-fault g c =
    subst (λ (s : KeptStation). IsNoBegin g.W.Weigh.weight_of false s.name s.config s.kept c.restart_fault-fault.result)
    (c.in-Err.ensures.goes.0 ∙ c.stopped-station.ensures.still) c.restart_fault-fault.ensures.fault

pub returns-in-Err-clause-leaves : goal.returns-in-Err-clause-leaves
returns-in-Err-clause-leaves g c =
    leaves_old g.W.Weigh.weight_of false c.args.name c.args.config (g.K.Keeper.kept c.args.keeper) (g.K.Keeper.found c.args.keeper) c.restart_fault-fault.result _
    (standing_same _ _ (c.in-Err.ensures.goes.0 ∙ c.stopped-station.ensures.still)
    (c.in-Err.ensures.unput ∙ ap g.K.Keeper.found c.stopped-station.ensures.keeper))
    (λ e. (refl, refused_bad g.W.Weigh.weight_of _ _ c.in-Err.refusal c.stopped-station.ensures.still c.in-Err.ensures.goes.1 (c.restart_fault-fault.ensures.wants e)))

pub returns-in-Err-clause-counted : goal.returns-in-Err-clause-counted
returns-in-Err-clause-counted g c =
    let failures = g.K.Keeper.failures in let step = c.in-Err.ensures in
    subst (λ k. RisesWhere (IsUnkept c.restart_fault-fault.result) (failures k) (failures (keeper_of c.step.new.self))) c.stopped-station.ensures.keeper
    (counted c.restart_fault-fault.result c.in-Err.refusal _ _ c.restart_fault-fault.ensures.same c.restart_fault-fault.ensures.refused
    (λ e. step.rose (cc)) (λ more. let f = step.told more in cc) step.never_falls step.by_one)

pub returns-in-Ok-clause-begins : goal.returns-in-Ok-clause-begins
returns-in-Ok-clause-begins g c =
    let begins = subst (λ (s : KeptStation). AnswersAct g.W.Weigh.weight_of s Restart 0 (Ok c.in-Ok.done) (kept_station_of g.K.Keeper.kept c.step.new.self)) c.stopped-station.ensures.still c.in-Ok.ensures.goes in
    begins_with g.W.Weigh.weight_of false c.args.name c.args.config (g.K.Keeper.kept c.args.keeper) (λ b. b.filter.station) (λ b. b.first.items) (λ s. kept_station_of g.K.Keeper.kept s)
    c.step.new.self _ c.begun_with.result (c.in-Ok.done, begins, refl) c.begun_with.ensures.station c.begun_with.ensures.first

pub returns-in-Ok-clause-fault : goal.returns-in-Ok-clause-fault
returns-in-Ok-clause-fault g c =
    unanswered g.W.Weigh.weight_of false c.args.name c.args.config (g.K.Keeper.kept c.args.keeper) (λ u. u.fault) c.begun_with.result c.begun_with.ensures.fault

pub returns-in-Ok-clause-leaves : goal.returns-in-Ok-clause-leaves
returns-in-Ok-clause-leaves g c =
    let begins = subst (λ (s : KeptStation). AnswersAct g.W.Weigh.weight_of s Restart 0 (Ok c.in-Ok.done) (kept_station_of g.K.Keeper.kept c.step.new.self)) c.stopped-station.ensures.still c.in-Ok.ensures.goes in
    leaves_begun g.W.Weigh.weight_of false c.args.name c.args.config (g.K.Keeper.kept c.args.keeper) (g.K.Keeper.found c.args.keeper) (λ u. u.fault) (λ u. u.station) (λ s. kept_station_of g.K.Keeper.kept s)
    (λ s. g.K.Keeper.found (keeper_of s))
    c.step.new.self _ c.begun_with.result (c.in-Ok.done, begins, refl) c.begun_with.ensures.fault c.begun_with.ensures.left

pub returns-in-Ok-clause-counted : goal.returns-in-Ok-clause-counted
returns-in-Ok-clause-counted g c =
    uncounted (λ u. u.fault) (λ u. u.station) (λ x. g.K.Keeper.failures (keeper_of x)) (g.K.Keeper.failures c.args.keeper) c.step.new.self c.begun_with.result
    (c.in-Ok.ensures.uncounted ∙ ap g.K.Keeper.failures c.stopped-station.ensures.keeper) c.begun_with.ensures.fault c.begun_with.ensures.left

pub returns-in-Err-clause-order : goal.returns-in-Err-clause-order
returns-in-Err-clause-order g c = λ readable unkept.
    let e = c.restart_fault-fault.ensures.same KeepFailed unkept in
    fails_given g.W.Weigh.weight_of _ _ c.stopped-station.ensures.still
    (c.in-Err.ensures.order (subst (λ k. g.K.Keeper.readable k ≡ true) (sym c.stopped-station.ensures.keeper) readable) (cc))

pub returns-in-Ok-clause-order : goal.returns-in-Ok-clause-order
returns-in-Ok-clause-order g c =
    unsaved (FailsAtSave g.W.Weigh.weight_of c.args.name c.args.config (g.K.Keeper.kept c.args.keeper)) (g.K.Keeper.readable c.args.keeper ≡ true) (λ u. u.fault) c.begun_with.result c.begun_with.ensures.fault
