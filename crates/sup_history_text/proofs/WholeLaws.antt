-- Exchanges of which all but the last have whole answers.
use Rattle.std.proofs.Common.{◌≡◌, List, [], ◌∷◌, ◌++◌, true}
use Rattle.std.specs.Prelude.{is_some}
use Rattle.std.specs.List.{AllByRecursion}
use Rattle.sup_history_text.specs.Sessions.{AllButLastAreWhole}
use Rattle.sup_history_text.specs.declared.exchange.Exchange.{Exchange}

abbrev pub IsWhole : Exchange → Type 0
IsWhole exchange = is_some exchange.answer.end ≡ true

pub all_are_whole : (es : List Exchange) → AllByRecursion IsWhole es → AllButLastAreWhole es
all_are_whole [] h = tt
all_are_whole (e ∷ []) h = tt
all_are_whole (e ∷ next ∷ es) h = (h.0, all_are_whole (next ∷ es) h.1)

-- whole ones, and any one behind them
pub whole_but_last : (es : List Exchange) (e : Exchange) → AllByRecursion IsWhole es → AllButLastAreWhole (es ++ e ∷ [])
whole_but_last [] e h = tt
whole_but_last (x ∷ []) e h = (h.0, tt)
whole_but_last (x ∷ next ∷ es) e h = (h.0, whole_but_last (next ∷ es) e h.1)

pub whole-append : (es : List Exchange) (e : Exchange) → AllByRecursion IsWhole es → IsWhole e → AllByRecursion IsWhole (es ++ e ∷ [])
whole-append [] e h w = (w, tt)
whole-append (x ∷ es) e h w = (h.0, whole-append es e h.1 w)
