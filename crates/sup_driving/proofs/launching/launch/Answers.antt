use Rattle.std.proofs.Common.{subst}
use Rattle.std.specs.List.{AllZip}
use Rattle.sup_posts.specs.Jobs.{GivesDriven}
use Rattle.sup_driving.specs.Called.{stood_by}
use Rattle.sup_driving.specs.PlannedRuns.{Planned}
use Rattle.sup_driving.proofs.LaunchLaws.{can_all, drives_take, gives_all}
use Rattle.sup_driving.proofs.launching.launch.Goals as goal

pub split_all-requires : goal.split_all-requires
split_all-requires g c = drives_take c.args.planned.plan c.args.posts.now c.args.posts.now c.args.drives.items c.requires.drives

pub gather_all-requires : goal.gather_all-requires
gather_all-requires g c = can_all (g.N.Runner.did c.planned.inside.runner.now) (stood_by g.C.Checkpoint.was_before g.C.Checkpoint.was_answered c.planned.inside.checkpoint.now) c.args.posts.now c.args.drives.items c.in_ok-teams.teams.items c.in_ok-done.done.items c.in_ok-teams.ensures.teams c.in_ok-done.ensures

pub returns-clause-driven : goal.returns-clause-driven
returns-clause-driven g c =
    subst (λ (p : Planned g.row.N.Denot g.row.C.Denot). AllZip (GivesDriven (g.N.Runner.did p.runner) (stood_by g.C.Checkpoint.was_before g.C.Checkpoint.was_answered p.checkpoint) c.args.posts.now) c.args.drives.items c.in_ok-results.results.items) c.planned.view_is
    (gives_all (g.N.Runner.did c.planned.inside.runner.now) (stood_by g.C.Checkpoint.was_before g.C.Checkpoint.was_answered c.planned.inside.checkpoint.now) c.args.posts.now c.args.drives.items c.in_ok-teams.teams.items c.in_ok-done.done.items c.in_ok-results.results.items c.in_ok-teams.ensures.teams c.in_ok-done.ensures c.in_ok-results.ensures)
