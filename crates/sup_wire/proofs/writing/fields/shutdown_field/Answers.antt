use Rattle.std.proofs.lemmas.Result.{on_ok_weaker}
use Rattle.sup_wire.specs.Forms.{shutdown_value}
use Rattle.sup_wire.proofs.Adding.{adds_field}
use Rattle.sup_wire.proofs.writing.fields.shutdown_field.Goals as goal

pub returns-clause-adds : goal.returns-clause-adds
returns-clause-adds c = on_ok_weaker c.write_shutdown.result (λ last. adds_field _ _ _ _ (shutdown_value c.args.shutdown) c.in_ok-key.ensures.room.0 c.in_ok-key.ensures.ok last) c.write_shutdown.ensures.adds
