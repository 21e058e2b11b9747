use Rattle.std.proofs.Common.{◌++◌, ap, refl, sym}
use Rattle.sup_links.specs.Waiting.{waiting, counted, due}
use Rattle.sup_links.specs.Going.{going}
use Rattle.sup_links.specs.Texts.{put_said}
use Rattle.sup_links.proofs.TextLaws.{sends_err, stops_less, stops_then}
use Rattle.sup_links.proofs.sending.send_all.Goals as goal

pub returns-in_err-send_copies-clause-put : goal.returns-in_err-send_copies-clause-put
returns-in_err-send_copies-clause-put g c =
    let rest = due (counted (waiting c.args.held.now.items)) in
    sends_err c.from_residual.result _ _ _ c.from_residual.ensures.0
    (stops_less (put_said c.args.entry.now.pass) (put_said c.send_copies.new.entry.pass) (going c.args.copies) rest (going c.args.copies ++ rest) refl c.in_err-send_copies.ensures.put)

pub returns-in_err-send_due-clause-put : goal.returns-in_err-send_due-clause-put
returns-in_err-send_due-clause-put g c =
    sends_err c.from_residual-in_err-send_due.result _ _ _ c.from_residual-in_err-send_due.ensures.0
    (stops_then (put_said c.args.entry.now.pass) (put_said c.send_copies.new.entry.pass) (put_said c.send_due.new.entry.pass) (going c.args.copies) (due (waiting c.count_down.new.held.items)) _
    (ap (λ l. going c.args.copies ++ due l) (sym c.count_down.ensures)) c.in_ok-send_copies.ensures.put c.in_err-send_due.ensures.put)
