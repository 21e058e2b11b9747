use Rattle.std.proofs.Common.{sym, vec_items}
use Rattle.sup_world.specs.CarriedSteps.{seen_at}
use Rattle.sup_world.specs.SeenNodes.{sites_of}
use Rattle.sup_program.proofs.PrintedLineLaws.{message_none, message_there, message_unsent, said_as}
use Rattle.sup_program.proofs.line.message_text.Goals as goal

pub returns-in-Some-message : goal.returns-in-Some-message
returns-in-Some-message g c =
    let seen = seen_at (sites_of c.args.world.now) c.args.from.now in
    said_as vec_items c.bytes_line.result _ _ (sym (message_there _ seen c.args.k c.in-Some-message.ensures)) c.bytes_line.ensures

pub returns-in-None-message : goal.returns-in-None-message
returns-in-None-message g c =
    let seen = seen_at (sites_of c.args.world.now) c.args.from.now in
    said_as vec_items c.bytes_of.result _ _ (sym (message_unsent _ seen c.args.k c.in-Some.ensures.still c.in-None-message.ensures)) (c.bytes_of.ensures _ c.refusal_text.ensures)

pub returns-in-None : goal.returns-in-None
returns-in-None g c =
    let seen = seen_at (sites_of c.args.world.now) c.args.from.now in
    said_as vec_items c.unknown_text.result _ _ (sym (message_none seen c.args.k c.in-None.ensures.still)) c.unknown_text.ensures
