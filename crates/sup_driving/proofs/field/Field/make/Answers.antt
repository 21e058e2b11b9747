use Rattle.sup_node_gate.specs.Gates.{view_of}
use Rattle.sup_driving.specs.Called.{stood_by}
use Rattle.sup_driving.proofs.PassCallLaws.{called_more}
use Rattle.sup_driving.proofs.RoundLaws.{command_one, tells_since}
use Rattle.sup_driving.proofs.WirePutLaws.{shipped_later, shipped_more}
use Rattle.sup_driving.proofs.field.Field.make.Goals as goal

pub ship-requires-clause-shipped : goal.ship-requires-clause-shipped
ship-requires-clause-shipped g c =
    shipped_later c.args.shipped (view_of c.args.seat.now) (view_of c.call.new.seat) c.args.wires.now
    (called_more (view_of c.args.seat.now) c.args.command.act c.args.command.now c.in_ok-requests.requests.effects (view_of c.call.new.seat) c.in_ok-requests.ensures.called) c.requires.shipped

pub returns-clause-shipped : goal.returns-clause-shipped
returns-clause-shipped g c =
    shipped_more c.in_ok-shipped.shipped (view_of c.ship.new.seat) (view_of c.act_all.new.seat) c.ship.new.wires c.in_ok-shipped.ensures.count c.in_ok-shipped.ensures.letters c.in_ok-act_all.ensures.seen

pub returns-clause-made : goal.returns-clause-made
returns-clause-made g c =
    let did = g.N.Runner.did c.args.self.now.runner.now c.args.post.now.name in
    let stood = stood_by g.C.Checkpoint.was_before g.C.Checkpoint.was_answered c.args.self.now.checkpoint.now c.args.post.now.name in
    command_one did stood (view_of c.args.seat.now) (view_of c.call.new.seat) (view_of c.act_all.new.seat) c.args.command c.args.place c.in_ok-requests.requests.effects c.in_ok-requests.ensures.called
    (tells_since did c.args.command.now c.in_ok-requests.requests.effects (view_of c.call.new.seat) (view_of c.ship.new.seat) (view_of c.act_all.new.seat) c.ship.ensures.own c.ship.ensures.shares c.in_ok-act_all.ensures.told)
    (c.before-2.ensures, c.answered.ensures)
