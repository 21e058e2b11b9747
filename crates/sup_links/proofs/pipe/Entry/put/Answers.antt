use Rattle.std.proofs.Common.{ap}
use Rattle.sup_links.proofs.Relays.{sends}
use Rattle.sup_links.proofs.pipe.Entry.put.Goals as goal

pub send_as-requires-clause-rule : goal.send_as-requires-clause-rule
send_as-requires-clause-rule g c = (sends _ _ _ _ (ap (λ v. v.puts) c.args.self.now.puts), λ items views h at. tt)
