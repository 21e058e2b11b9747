use Rattle.std.proofs.Common.{ap}
use Rattle.sup_links.proofs.Relays.{gets}
use Rattle.sup_links.proofs.pipe.Exit.take.Goals as goal

pub recv_as-requires-clause-rule : goal.recv_as-requires-clause-rule
recv_as-requires-clause-rule g c = (gets _ _ (ap (λ v. v.takes) c.args.self.now.takes), λ items views h at. tt)
