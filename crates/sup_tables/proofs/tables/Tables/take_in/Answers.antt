use Rattle.std.proofs.Common.{◌≡◌, IfSome, ap, ◌∙◌, subst}
use Rattle.std.proofs.lemmas.Result.{on_ok_weaker}
use Rattle.sup_tables.specs.Joined.{join_states}
use Rattle.sup_tables.specs.Planned.{IsPlanFor}
use Rattle.sup_tables.proofs.tables.Tables.take_in.Goals as goal
use Rattle.sup_tables.proofs.tables.Tables.take_in.Goals.{then-is_small_beside, else-is_small_beside}

pub returns-in-Some-2-clause-state : goal.returns-in-Some-2-clause-state
returns-in-Some-2-clause-state c =
    let mine = c.if-is_small_beside.self in
    let other = c.args.other.now in
    let same : mine ≡ c.args.self.now = elim c.if-is_small_beside.branch [ then-is_small_beside w ↦ w.self-is ∙ w.index_rows.ensures | else-is_small_beside w ↦ w.self-is ] in
    let plan : IsPlanFor c.in-Some-2.plan mine (join_states mine other) = subst (λ o. IfSome o (λ p. IsPlanFor p mine (join_states mine other))) c.in-Some-2.is c.in_ok-plan.ensures.plan in
    on_ok_weaker c.follow.result (λ made. made (join_states mine other) plan ∙ ap (λ s. join_states s other) same) c.follow.ensures.made
