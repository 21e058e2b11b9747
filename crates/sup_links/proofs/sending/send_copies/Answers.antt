use Rattle.std.proofs.Common.{ap, ◌∷◌, []}
use Rattle.sup_links.specs.Going.{going}
use Rattle.sup_links.specs.Texts.{put_said}
use Rattle.sup_links.proofs.TextLaws.{sends_then, sends_err, stops_less}
use Rattle.sup_links.proofs.sending.send_copies.Goals as goal

pub returns-in_err-send-in-Two-clause-put : goal.returns-in_err-send-in-Two-clause-put
returns-in_err-send-in-Two-clause-put g c =
    sends_err c.from_residual.result _ _ _ c.from_residual.ensures.0
    (stops_less (put_said c.args.entry.now.pass) (put_said c.send-in-Two.new.entry.pass) (c.in-Two.first.items ∷ []) (c.in-Two.second.items ∷ []) (going c.args.copies) (ap going c.in-Two.is) c.in_err-send-in-Two.ensures.put)

pub returns-in_ok-send-in-Two-clause-put : goal.returns-in_ok-send-in-Two-clause-put
returns-in_ok-send-in-Two-clause-put g c =
    sends_then c.send-in-Two-2.result (put_said c.args.entry.now.pass) (put_said c.send-in-Two.new.entry.pass) (put_said c.send-in-Two-2.new.entry.pass) (c.in-Two.first.items ∷ []) (c.in-Two.second.items ∷ []) (going c.args.copies)
    (ap going c.in-Two.is) c.in_ok-send-in-Two.ensures.put c.send-in-Two-2.ensures.put
