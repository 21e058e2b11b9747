use Rattle.std.proofs.Common.{◌≡◌, ◌∙◌, length, map, refl, sym, subst}
use Rattle.std.specs.List.{AllZip}
use Rattle.sup_node_gate.specs.Gates.{IsBound}
use Rattle.sup_plan.specs.Plans.{IsPlan}
use Rattle.sup_posts.specs.Drives.{places}
use Rattle.sup_posts.specs.Jobs.{GivesDriven}
use Rattle.sup_posts.specs.declared.jobs.Drive.{Drive}
use Rattle.sup_driving.specs.Called.{stood_by}
use Rattle.sup_driving.specs.Launches.{results_of}
use Rattle.sup_cluster.proofs.ReturnedTeamLaws.{returned, same_drives, same_nodes}
use Rattle.sup_cluster.proofs.FinishedRunLaws.{all_stood, all_within, is_run}
use Rattle.sup_cluster.proofs.running.run.Goals as goal

pub open_posts-requires : goal.open_posts-requires
open_posts-requires g c = subst IsBound (sym c.bound.ensures) c.requires.bound

pub make_drives-requires-clause-runs : goal.make_drives-requires-clause-runs
make_drives-requires-clause-runs g c = subst IsPlan (sym c.plan-plan.ensures) c.requires.plan

pub launch-requires-clause-nodes : goal.launch-requires-clause-nodes
launch-requires-clause-nodes g c = λ κs lives. same_nodes c.plan-plan.result.now c.args.planned.plan c.bound.result c.args.planned.bound _ _ _ c.plan-plan.ensures c.bound.ensures c.deref.ensures.value (sym c.deref-3.ensures.value) c.in_ok-posts.ensures.posts

pub launch-requires-clause-drives : goal.launch-requires-clause-drives
launch-requires-clause-drives g c = λ κs lives. same_drives c.plan-plan.result.now c.args.planned.plan _ _ c.in_ok-drives.drives.items c.plan-plan.ensures (c.deref-2.ensures.value ∙ sym c.deref-3.ensures.value) c.in_ok-drives.ensures.drives

pub of-requires : goal.of-requires
of-requires g c =
    returned (g.N.Runner.did c.args.planned.runner) (stood_by g.C.Checkpoint.was_before g.C.Checkpoint.was_answered c.args.planned.checkpoint) c.args.planned.plan c.in_ok-posts.posts.items c.in_ok-drives.drives.items (results_of c.in_ok-launched.launched)
    (same_drives c.plan-plan.result.now c.args.planned.plan _ _ c.in_ok-drives.drives.items c.plan-plan.ensures c.deref-2.ensures.value c.in_ok-drives.ensures.drives)
    (subst (λ l. AllZip (GivesDriven (g.N.Runner.did c.args.planned.runner) (stood_by g.C.Checkpoint.was_before g.C.Checkpoint.was_answered c.args.planned.checkpoint) l) c.in_ok-drives.drives.items (results_of c.in_ok-launched.launched)) c.deref-3.ensures.value c.in_ok-launched.ensures.driven)

pub returns-clause-run : goal.returns-clause-run
returns-clause-run g c =
    is_run (g.N.Runner.did c.args.planned.runner) (stood_by g.C.Checkpoint.was_before g.C.Checkpoint.was_answered c.args.planned.checkpoint) g.W.Weigh.weight_of c.args.planned.plan c.args.planned.bound c.in_ok-posts.posts.items c.in_ok-drives.drives.items (results_of c.in_ok-launched.launched) c.in_ok-ran.ran.histories
    (same_nodes c.plan-plan.result.now c.args.planned.plan c.bound.result c.args.planned.bound _ _ _ c.plan-plan.ensures c.bound.ensures c.deref.ensures.value refl c.in_ok-posts.ensures.posts)
    (same_drives c.plan-plan.result.now c.args.planned.plan _ _ c.in_ok-drives.drives.items c.plan-plan.ensures c.deref-2.ensures.value c.in_ok-drives.ensures.drives)
    (subst (λ l. AllZip (GivesDriven (g.N.Runner.did c.args.planned.runner) (stood_by g.C.Checkpoint.was_before g.C.Checkpoint.was_answered c.args.planned.checkpoint) l) c.in_ok-drives.drives.items (results_of c.in_ok-launched.launched)) c.deref-3.ensures.value c.in_ok-launched.ensures.driven)
    (subst (λ l. map (λ (d : Drive g.row.W.Denot g.W.Weigh). d.at) c.in_ok-drives.drives.items ≡ places (length l)) c.deref-2.ensures.value c.in_ok-drives.ensures.places)
    c.in_ok-drives.ensures.whole c.in_ok-ran.ensures.histories

pub returns-clause-stood : goal.returns-clause-stood
returns-clause-stood g c =
    all_stood (g.N.Runner.did c.args.planned.runner) (stood_by g.C.Checkpoint.was_before g.C.Checkpoint.was_answered c.args.planned.checkpoint) g.W.Weigh.weight_of c.args.planned.plan c.in_ok-posts.posts.items c.in_ok-drives.drives.items (results_of c.in_ok-launched.launched) c.in_ok-ran.ran.histories
    (same_drives c.plan-plan.result.now c.args.planned.plan _ _ c.in_ok-drives.drives.items c.plan-plan.ensures c.deref-2.ensures.value c.in_ok-drives.ensures.drives)
    (subst (λ l. AllZip (GivesDriven (g.N.Runner.did c.args.planned.runner) (stood_by g.C.Checkpoint.was_before g.C.Checkpoint.was_answered c.args.planned.checkpoint) l) c.in_ok-drives.drives.items (results_of c.in_ok-launched.launched)) c.deref-3.ensures.value c.in_ok-launched.ensures.driven)
    (subst (λ l. map (λ (d : Drive g.row.W.Denot g.W.Weigh). d.at) c.in_ok-drives.drives.items ≡ places (length l)) c.deref-2.ensures.value c.in_ok-drives.ensures.places)
    c.in_ok-drives.ensures.whole c.in_ok-ran.ensures.histories

pub returns-clause-bound : goal.returns-clause-bound
returns-clause-bound g c =
    all_within g.W.Weigh.weight_of c.args.planned.plan.config c.args.planned.bound c.args.planned.plan.nodes.items c.in_ok-posts.posts.items c.in_ok-ran.ran.histories
    (same_nodes c.plan-plan.result.now c.args.planned.plan c.bound.result c.args.planned.bound _ _ _ c.plan-plan.ensures c.bound.ensures c.deref.ensures.value refl c.in_ok-posts.ensures.posts)
    c.in_ok-ran.ensures.histories.histories

pub returns-clause-ran_by : goal.returns-clause-ran_by
returns-clause-ran_by g c = c.in_ok-ran.ensures.ran_by ∙ c.in_ok-launched.ensures.ran_by
