-- A replay, as contracts see it: how far it has come, and what one entry makes of it.
use Rattle.std.specs.Prelude.{List}
use Rattle.sup_placement.specs.Place.{Weigher}
use Rattle.sup_plan.specs.declared.histories.History.{History}
use Rattle.sup_model.specs.declared.step.Step.{Step}
use Rattle.sup_world.specs.SeenNodes.{SeenNode, sites_of}
use Rattle.sup_certify.specs.Certified.{MakesEntry}
use Rattle.sup_certify.specs.Orders.{PlacedEntry}
use Rattle.sup_certify.specs.Progress.{ReachesSites}
use Rattle.sup_certify.specs.declared.replay.Replay.{Replay}

-- the first entries of each history make a run from there to where it is
abbrev pub ReachesReplay : {W : Type 0} {h : _} → Weigher → List SeenNode → List History → Replay W h → Type 0
ReachesReplay g start histories replay = ReachesSites g start histories replay.placed.items replay.steps.items (sites_of replay.world)

-- its world makes this step, which the entry is, as the entry says
abbrev pub MakesEntryIn : {W : Type 0} {h : _} → Weigher → Replay W h → PlacedEntry → Step → Replay W h → Type 0
MakesEntryIn g replay p step after = MakesEntry g (sites_of replay.world) p step (sites_of after.world)
