use Rattle.std.specs.Prelude.{Ok, Err}
use Rattle.sup_noting.specs.Noted.{noted_of}
use Rattle.sup_world.specs.SeenNodes.{sites_of}
use Rattle.sup_drawing.proofs.NotedLineLaws.{step_noted}
use Rattle.sup_drawing.proofs.play.play_step.Goals as goal

pub returns-in-Ok : goal.returns-in-Ok
returns-in-Ok g c =
    let p = c.in-Ok.ensures in
    step_noted g.G.Weigh.weight_of c.args.caption.now (sites_of c.args.world.now) (sites_of c.step.new.self) (noted_of c.args.log.now) (noted_of c.note_answer.new.log) c.args.step.now (Ok c.in-Ok.answer) c.note_answer.result
    (record { steps = p.steps; follows = p.follows; refused = p.refused; counted = p.counted; uncounted = p.uncounted; rose = p.rose; told = p.told; others = p.others })
    c.note_answer.ensures.rows c.note_answer.ensures.posts c.note_answer.ensures.changes

pub returns-in-Err : goal.returns-in-Err
returns-in-Err g c =
    let p = c.in-Err.ensures in
    step_noted g.G.Weigh.weight_of c.args.caption.now (sites_of c.args.world.now) (sites_of c.step.new.self) (noted_of c.args.log.now) (noted_of c.note_refusal.new.log) c.args.step.now (Err c.in-Err.refusal) c.note_refusal.result
    (record { steps = p.steps; follows = p.follows; refused = p.refused; counted = p.counted; uncounted = p.uncounted; rose = p.rose; told = p.told; others = p.others })
    c.note_refusal.ensures.rows c.note_refusal.ensures.posts c.note_refusal.ensures.changes
