use Rattle.std.proofs.Common.{arith}
use Rattle.sup_world.specs.SeenNodes.{sites_of}
use Rattle.sup_world.proofs.FailureCountLaws.{failed_once_more, unfailed}
use Rattle.sup_program.proofs.PlayedLineLaws.{begins, goes_on, whole, ended, of_fault}
use Rattle.sup_program.proofs.play.play.Goals as goal

pub returns-in_err-play_line-clause-until : goal.returns-in_err-play_line-clause-until
returns-in_err-play_line-clause-until g c = λ model stands tells.
    let so_far = c.loop-line.invariant.plays model stands tells in
    let last = c.in_err-play_line.ensures.plays so_far.reached so_far.stands so_far.tells in
    of_fault c.from_residual.result _ _ _ c.from_residual.ensures.1 (λ _ e. e)
    (ended g.G.Weigh.weight_of _ _ _ c.loop-line.line-index c.line-item.result _ (sites_of c.play_line.new.world) _ _ _ _ c.loop-line-test.true c.line-item.is so_far last)

pub loop-line-preserved : goal.loop-line-preserved
loop-line-preserved g c = record {
  counted = failed_once_more c.loop-line.line-index _ _ c.loop-line.invariant.counted c.play_line.ensures.counted;
  plays = λ model stands tells.
      let so_far = c.loop-line.invariant.plays model stands tells in
      let last = c.in_ok-play_line.ensures.plays so_far.reached so_far.stands so_far.tells in
      goes_on g.G.Weigh.weight_of _ _ _ c.loop-line.line-index c.line-item.result _ _ _ _ _ c.loop-line-test.true c.line-item.is so_far last.0 last.1;
}

pub loop-line-init : goal.loop-line-init
loop-line-init g c = record {
  counted = unfailed _ c.requires.unfailed;
  plays = λ model stands tells. begins g.G.Weigh.weight_of _ _ _ _ stands tells;
}

pub returns-clause-all : goal.returns-clause-all
returns-clause-all g c = λ model stands tells. whole g.G.Weigh.weight_of _ _ _ c.loop-line.line-index _ _ _ (omega arith) (c.loop-line.invariant.plays model stands tells)
