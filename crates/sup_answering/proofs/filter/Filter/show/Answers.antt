use Rattle.std.proofs.Common.{◌≡◌, ℕ, List, ◌∙◌, ap, subst, IfOk}
use Rattle.sup_node_text.specs.Shown.{show_text}
use Rattle.sup_told.specs.Told.{ended_text}
use Rattle.sup_answering.proofs.LentStationLaws.{shown_lent}
use Rattle.sup_answering.proofs.filter.Filter.show.Goals as goal

pub returns : goal.returns
returns g c = subst (λ (said : List ℕ). IfOk c.ended_text.result (λ text. text.items ≡ ended_text said))
    (c.in_ok-lines.ensures ∙ ap (λ shown. show_text g.W.Weigh.weight_of c.args.self.now.name shown) (shown_lent c.node.result _ c.node.ensures)) c.ended_text.ensures
