use Rattle.std.proofs.Common.{Some, None, refl, rules}
use Rattle.sup_node.specs.Texts.{mail_of}
use Rattle.sup_answering.proofs.peers.sender_of.Goals as goal

pub returns-in-Ok : goal.returns-in-Ok
returns-in-Ok c = (Some (mail_of c.in-Ok.message), (c.in-Ok.message, c.in-Ok.ensures.whole, c.in-Ok.ensures.ok, refl), c.sender_in.ensures)

pub returns-in-Err : goal.returns-in-Err
returns-in-Err c = (None, λ m whole says. let f = c.in-Err.ensures.only m whole says in first_of (search rules, cc), refl)
