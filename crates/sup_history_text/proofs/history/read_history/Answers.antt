use Rattle.std.proofs.Common.{◌≡◌, ◌+◌, ◌++◌, ◌∙◌, ap, drop, arith, subst, None, List, get_or}
use Rattle.std.proofs.lemmas.Grind.{common_steps}
use Rattle.std.proofs.lemmas.List.{drop-drop}
use Rattle.std.proofs.lemmas.List.Elements.{All-push}
use Rattle.sup_history_text.specs.Histories.{Follow, OnlyBeginFollows, last_kind}
use Rattle.sup_history_text.specs.Lines.{Line, line_in, lines_in}
use Rattle.sup_history_text.specs.Sessions.{IsSession, session_lines, sessions_lines}
use Rattle.sup_history_text.proofs.LineLaws.{all_read, more_sessions, parts_at}
use Rattle.sup_history_text.proofs.OnlyBeginLaws.{begin_behind_sessions, no_line, out_of_order}
use Rattle.sup_history_text.proofs.OrderLaws.{sessions_follow}
use Rattle.sup_history_text.proofs.history.read_history.Goals as goal

pub returns-then-not-is-clause-bad_line : goal.returns-then-not-is-clause-bad_line
returns-then-not-is-clause-bad_line c =
    λ n e. record {
      before = sessions_lines c.loop-at.sessions.items;
      line = line_in (get_or c.args.lines.now c.loop-at.at no_line);
      behind = lines_in (drop (c.loop-at.at + 1) c.args.lines.now);
      parts = parts_at _ _ c.args.lines.now c.loop-at.at no_line c.loop-at-test.true c.loop-at.invariant.lines;
      number = cc;
      in_order = sessions_follow None _ c.loop-at.invariant.sessions;
      out = out_of_order _ c.args.lines.now c.loop-at.at c.loop-at-test.true c.loop-at.invariant.over (λ is. let no = c.if-not-is.ensures.1 is in cc);
    }

pub loop-at-preserved : goal.loop-at-preserved
loop-at-preserved c =
    let from = c.lines_from.ensures in
    let here = c.in_ok-session.ensures in
    let more : session_lines c.in_ok-session.session ++ lines_in (drop c.in_ok-session.count (drop c.loop-at.at c.args.lines.now)) ≡ lines_in (drop c.loop-at.at c.args.lines.now) = rw from at here.lines in
    let rest : drop c.in_ok-session.count c.lines_from.result.now ≡ drop (c.loop-at.at + c.in_ok-session.count) c.args.lines.now = ap (λ ls. drop c.in_ok-session.count ls) from ∙ drop-drop c.in_ok-session.count c.loop-at.at c.args.lines.now in
    let over : OnlyBeginFollows (last_kind None (session_lines c.in_ok-session.session)) (lines_in (drop (c.loop-at.at + c.in_ok-session.count) c.args.lines.now)) = rw rest at here.over in
    record {
      lines = rw c.in_ok-push_session.ensures (more_sessions _ _ c.args.lines.now c.loop-at.at c.in_ok-session.count _ c.loop-at.invariant.lines more);
      within = (let w = here.within in grind (arith, common_steps, from, w, c.loop-at.invariant.within));
      sessions = rw c.in_ok-push_session.ensures (All-push IsSession _ _ c.loop-at.invariant.sessions here.session);
      over = rw c.in_ok-push_session.ensures (begin_behind_sessions c.loop-at.sessions.items c.in_ok-session.session _ over);
    }

pub returns-clause-in_order : goal.returns-clause-in_order
returns-clause-in_order c =
    let all : sessions_lines c.loop-at.sessions.items ≡ lines_in c.args.lines.now = all_read _ _ c.args.lines.now c.loop-at.at c.loop-at-test.false c.loop-at.invariant.lines in
    let F : List Line → Type 0 = λ lines. Follow None lines in
    subst F all (sessions_follow None _ c.loop-at.invariant.sessions)
