use Rattle.std.proofs.Common.{◌≡◌, ℕ, List, ◌∙◌, ap, subst, IfOk}
use Rattle.sup_told.specs.Told.{ended_text}
use Rattle.sup_answering.specs.AnsweringNodes.{members_of}
use Rattle.sup_answering.proofs.LentStationLaws.{node_lent}
use Rattle.sup_answering.proofs.filter.Filter.members.Goals as goal

pub returns : goal.returns
returns g c = subst (λ (said : List ℕ). IfOk c.ended_text.result (λ text. text.items ≡ ended_text said))
    (c.in_ok-lines.ensures ∙ ap (λ node. members_of c.args.self.now.name node) (node_lent c.node.result _ c.node.ensures)) c.ended_text.ensures
