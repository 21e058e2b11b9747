use Rattle.std.proofs.Common.{take}
use Rattle.sup_model.specs.Worlds.{ModelWorld}
use Rattle.sup_world.specs.FollowedSteps.{StandsFor}
use Rattle.sup_world.specs.SeenNodes.{sites_of}
use Rattle.sup_program.specs.Prints.{TellsMessages}
use Rattle.sup_world.proofs.FailureCountLaws.{FailedAtMost}
use Rattle.sup_program.proofs.PlayedLineLaws.{PlaysTo}
use Rattle.sup_program.proofs.play.play.Given as goal

abbrev pub invariant-loop-line : goal.invariant-loop-line
invariant-loop-line g l = record {
  counted : FailedAtMost l.line-index (sites_of l.world);
  plays : (model : ModelWorld) → StandsFor g.G.Weigh.weight_of (sites_of l.fn.world) model → TellsMessages model.is_message → PlaysTo g.G.Weigh.weight_of l.peers (record { model = model; sites = sites_of l.fn.world }) (take l.line-index l.lines) (sites_of l.world) (g.W.Write.contents l.fn.writer) (g.W.Write.contents l.writer);
}
