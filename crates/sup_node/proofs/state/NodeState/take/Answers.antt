use Rattle.std.proofs.Common.{sym, subst}
use Rattle.sup_node.specs.NodeStates.{station_in}
use Rattle.sup_node.specs.TakenMail.{TakesMail}
use Rattle.sup_node.specs.Texts.{mail_of}
use Rattle.sup_node.proofs.state.NodeState.take.Goals as goal

pub returns-in-Ack : goal.returns-in-Ack
returns-in-Ack g c = subst (λ m. TakesMail g.W.Weigh.weight_of (station_in c.args.self.now) (mail_of m) c.take_ack.result) (sym c.in-Ack.is) (c.take_ack.ensures g.W.Weigh.weight_of c.requires.keeps)
