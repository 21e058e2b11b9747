use Rattle.std.proofs.Common.{◌≡◌, ◌≤◌, ◌-◌, ◌++◌, All, None, length, drop}
use Rattle.sup_history_text.specs.Histories.{OnlyBeginFollows, last_kind}
use Rattle.sup_history_text.specs.Lines.{lines_in}
use Rattle.sup_history_text.specs.Sessions.{IsSession, sessions_lines}
use Rattle.sup_history_text.proofs.history.read_history.Given as goal

abbrev pub invariant-loop-at : goal.invariant-loop-at
invariant-loop-at l = record {
  lines : sessions_lines l.sessions.items ++ lines_in (drop l.at l.lines) ≡ lines_in l.fn.lines;
  within : l.at ≤ length l.lines;
  sessions : All IsSession l.sessions.items;
  over : OnlyBeginFollows (last_kind None (sessions_lines l.sessions.items)) (lines_in (drop l.at l.lines));
}

abbrev pub decreases-loop-at : goal.decreases-loop-at
decreases-loop-at l = length l.lines - l.at
