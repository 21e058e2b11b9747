use Rattle.std.proofs.Common.{◌≡◌, ◌+◌, ◌++◌, ◌∙◌, drop, sym, ap, true, false}
use Rattle.std.specs.Prelude.{is_some}
use Rattle.std.proofs.lemmas.List.{drop-drop}
use Rattle.sup_history_text.specs.Lines.{lines_in}
use Rattle.sup_history_text.specs.Sessions.{answer_lines, exchanges_lines, goes_on}
use Rattle.sup_history_text.proofs.LineLaws.{deeper, three_runs}
use Rattle.sup_history_text.proofs.OnlyBeginLaws.{begin_behind_exchanges, begin_behind_unasked, first_begins}
use Rattle.sup_history_text.proofs.OrderLaws.{begin_answers}
use Rattle.sup_history_text.proofs.session.take_session.Goals as goal

pub returns-then-not-is_whole-clause-over : goal.returns-then-not-is_whole-clause-over
returns-then-not-is_whole-clause-over c =
    let first = c.lines_from-others.ensures in
    let short : is_some c.take_answer-told.result.0.end ≡ false = sym c.if-not-is_whole.ensures in
    let rest : drop c.take_answer-told.result.1 c.lines_from-others.result.now ≡ drop (1 + c.take_answer-told.result.1) c.args.lines.now = ap (λ ls. drop c.take_answer-told.result.1 ls) first ∙ drop-drop c.take_answer-told.result.1 1 c.args.lines.now in
    let untold : goes_on (drop (1 + c.take_answer-told.result.1) c.args.lines.now) ≡ false = rw rest at (c.take_answer-told.ensures.over short) in
    begin_behind_unasked _ c.take_answer-told.result.0 c.new.result.items (drop (1 + c.take_answer-told.result.1) c.args.lines.now) c.new.ensures.items c.take_answer-told.ensures.answer (begin_answers _ (first_begins c.args.lines.now c.requires.some c.requires.begun)) short untold

pub returns-clause-lines : goal.returns-clause-lines
returns-clause-lines c =
    let others = c.lines_from-others.ensures in
    let told : answer_lines c.take_answer-told.result.0 ++ lines_in (drop c.take_answer-told.result.1 (drop 1 c.args.lines.now)) ≡ lines_in (drop 1 c.args.lines.now) = rw others at c.take_answer-told.ensures.lines in
    let rest : drop c.take_answer-told.result.1 (drop 1 c.args.lines.now) ≡ c.lines_from.result.now = sym (c.lines_from.ensures ∙ ap (λ ls. drop c.take_answer-told.result.1 ls) others) in
    three_runs c.args.lines.now _ (answer_lines c.take_answer-told.result.0) (exchanges_lines c.in_ok-exchanges.exchanges.items) c.take_answer-told.result.1 c.in_ok-exchanges.count c.requires.some told (rw rest c.in_ok-exchanges.ensures.lines)

pub returns-clause-over : goal.returns-clause-over
returns-clause-over c =
    let others = c.lines_from-others.ensures in
    let whole : is_some c.take_answer-told.result.0.end ≡ true = sym c.if-not-is_whole.ensures in
    let from : c.lines_from.result.now ≡ drop c.take_answer-told.result.1 (drop 1 c.args.lines.now) = c.lines_from.ensures ∙ ap (λ ls. drop c.take_answer-told.result.1 ls) others in
    let rest : drop c.in_ok-exchanges.count c.lines_from.result.now ≡ drop (1 + c.take_answer-told.result.1 + c.in_ok-exchanges.count) c.args.lines.now =
    ap (λ ls. drop c.in_ok-exchanges.count ls) from ∙ sym (deeper c.args.lines.now c.take_answer-told.result.1 c.in_ok-exchanges.count) in
    begin_behind_exchanges _ c.take_answer-told.result.0 c.in_ok-exchanges.exchanges.items _ c.take_answer-told.ensures.answer (begin_answers _ (first_begins c.args.lines.now c.requires.some c.requires.begun)) whole (rw rest at c.in_ok-exchanges.ensures.over)
