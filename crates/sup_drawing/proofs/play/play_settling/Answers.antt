use Rattle.std.specs.Prelude.{Ok, Err}
use Rattle.sup_noting.specs.Noted.{noted_of}
use Rattle.sup_world.specs.SeenNodes.{sites_of}
use Rattle.sup_drawing.proofs.NotedLineLaws.{settling_noted}
use Rattle.sup_drawing.proofs.play.play_settling.Goals as goal

pub returns-in-Ok : goal.returns-in-Ok
returns-in-Ok g c =
    let effects = c.as_slice.ensures in
    settling_noted g.G.Weigh.weight_of c.args.caption.now (sites_of c.args.world.now) (sites_of c.settle.new.self) (noted_of c.args.log.now) (noted_of c.note_settling.new.log) (Ok c.in-Ok.settled) c.note_settling.result
    c.in-Ok.ensures.steps c.in-Ok.ensures.follows c.in-Ok.ensures.counted
    (rw effects at c.note_settling.ensures.rows) c.note_settling.ensures.posts (rw effects at c.note_settling.ensures.changes)

pub returns-in-Err : goal.returns-in-Err
returns-in-Err g c =
    settling_noted g.G.Weigh.weight_of c.args.caption.now (sites_of c.args.world.now) (sites_of c.settle.new.self) (noted_of c.args.log.now) (noted_of c.note_unsettled.new.log) (Err c.in-Err.refusal) c.note_unsettled.result
    c.in-Err.ensures.steps c.in-Err.ensures.follows c.in-Err.ensures.counted
    c.note_unsettled.ensures.rows c.note_unsettled.ensures.posts c.note_unsettled.ensures.changes
