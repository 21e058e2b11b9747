use Rattle.std.proofs.Common.{arith}
use Rattle.sup_noting.specs.Noted.{noted_of}
use Rattle.sup_world.specs.SeenNodes.{sites_of}
use Rattle.sup_drawing.specs.Lines.{captions_of}
use Rattle.sup_drawing.proofs.NotedLineLaws.{goes_on, goes_to_its_end}
use Rattle.sup_drawing.proofs.play.play_lines.Goals as goal

pub loop-line-init : goal.loop-line-init
loop-line-init g c = λ new n h. h

pub loop-line-preserved : goal.loop-line-preserved
loop-line-preserved g c = λ new n h.
    let l = c.loop-line in
    l.invariant new n
    (goes_on g.G.Weigh.weight_of (captions_of c.args.captions.now) c.args.lines.now l.line-index (sites_of l.world) (noted_of l.log) c.line-item.result (sites_of c.play_line.new.world) new
    (noted_of c.play_line.new.log) n c.loop-line-test.true c.line-item.is c.in_ok-play_line.ensures h)

pub returns : goal.returns
returns g c =
    let l = c.loop-line in
    l.invariant (sites_of l.world) (noted_of l.log) (goes_to_its_end g.G.Weigh.weight_of (captions_of c.args.captions.now) c.args.lines.now l.line-index (sites_of l.world) (noted_of l.log) (omega arith))
