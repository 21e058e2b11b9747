-- Where want of memory may not stand in place of an answer.
use Rattle.std.specs.Prelude.{not, IsOk}
use Rattle.std.proofs.Common.{sym, ap, ◌∙◌, subst}
use mathlib.Core.Bool.{true≢false}
use mathlib.Core.Logic.{inl, inr}
use Rattle.sup_model.specs.Runs.{answer_of, is_late}
use Rattle.sup_model.specs.Memory.{StopsAreAnswered, FirstChecksComeFirst}

pub stops_are_answered : StopsAreAnswered
stops_are_answered w at now saves answer w' (inl h) = h.0
stops_are_answered w at now saves answer w' (inr (inl h)) = absurd (true≢false (sym h.1))
stops_are_answered w at now saves answer w' (inr (inr h)) = absurd h.2

pub first_checks_come_first : FirstChecksComeFirst
first_checks_come_first w at event now saves refusal answer w' e first (inl h) = h.0 ∙ ap answer_of e
first_checks_come_first w at event now saves refusal answer w' e first (inr (inl h)) = absurd (true≢false (sym h.1 ∙ ap is_late e ∙ ap not first))
first_checks_come_first w at event now saves refusal answer w' e first (inr (inr h)) = absurd (true≢false (sym (subst IsOk e h.1)))
