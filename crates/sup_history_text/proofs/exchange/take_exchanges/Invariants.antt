use Rattle.std.proofs.Common.{◌≡◌, ◌≤◌, ◌-◌, ◌++◌, All, Some, true, length, drop}
use Rattle.std.specs.List.{AllByRecursion}
use Rattle.sup_history_text.specs.Histories.{last_kind}
use Rattle.sup_history_text.specs.Kinds.{is_answered}
use Rattle.sup_history_text.specs.Lines.{lines_in}
use Rattle.sup_history_text.specs.Sessions.{IsExchange, exchanges_lines}
use Rattle.sup_history_text.specs.declared.kinds.LineKind.TheVariants.{End}
use Rattle.sup_history_text.proofs.WholeLaws.{IsWhole}
use Rattle.sup_history_text.proofs.exchange.take_exchanges.Given as goal

abbrev pub invariant-loop-at : goal.invariant-loop-at
invariant-loop-at l = record {
  lines : exchanges_lines l.exchanges.items ++ lines_in (drop l.at l.lines) ≡ lines_in l.fn.lines;
  within : l.at ≤ length l.lines;
  exchanges : All IsExchange l.exchanges.items;
  whole : AllByRecursion IsWhole l.exchanges.items;
  answered : is_answered (last_kind (Some End) (exchanges_lines l.exchanges.items)) ≡ true;
}

abbrev pub decreases-loop-at : goal.decreases-loop-at
decreases-loop-at l = length l.lines - l.at
