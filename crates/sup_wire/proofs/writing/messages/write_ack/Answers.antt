use Rattle.std.proofs.lemmas.Result.{on_ok_weaker}
use Rattle.sup_wire.proofs.Adding.{adds_four}
use Rattle.sup_wire.proofs.writing.messages.write_ack.Goals as goal

pub returns-clause-adds : goal.returns-clause-adds
returns-clause-adds c = on_ok_weaker c.last_fields.result (λ last. adds_four _ _ _ _ _ _ _ _ _ c.in_ok-begin_object.ensures.room.0 c.in_ok-begin_object.ensures.ok c.in_ok-sender_fields.ensures.adds c.in_ok-number_field.ensures last) c.last_fields.ensures.adds
