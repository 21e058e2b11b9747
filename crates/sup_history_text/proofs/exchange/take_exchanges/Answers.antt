use Rattle.std.proofs.Common.{◌≡◌, ◌+◌, ◌∙◌, ap, sym, drop, true, false, Some, refl, arith}
use Rattle.std.specs.Prelude.{is_some}
use Rattle.std.proofs.lemmas.Grind.{common_steps}
use Rattle.std.proofs.lemmas.List.{drop-drop}
use Rattle.sup_history_text.specs.Sessions.{goes_on}
use Rattle.sup_history_text.specs.declared.kinds.LineKind.TheVariants.{End}
use Rattle.sup_history_text.proofs.OnlyBeginLaws.{begin_behind_whole, exchange_pushed, short_pushed, whole_pushed}
use Rattle.sup_history_text.proofs.WholeLaws.{all_are_whole, whole-append, whole_but_last}
use Rattle.sup_history_text.proofs.exchange.take_exchanges.Goals as goal
use Rattle.sup_history_text.proofs.exchange.take_exchanges.Goals.{then-loop-at-test+else-is, else-loop-at-test}

pub returns-then-not-is_whole-clause-whole : goal.returns-then-not-is_whole-clause-whole
returns-then-not-is_whole-clause-whole c = rw c.in_ok-push_exchange.ensures (whole_but_last _ _ c.loop-at.invariant.whole)

pub returns-then-not-is_whole-clause-over : goal.returns-then-not-is_whole-clause-over
returns-then-not-is_whole-clause-over c =
    let short : is_some c.take_answer-count.result.0.end ≡ false = sym c.if-not-is_whole.ensures in
    let rest : drop c.take_answer-count.result.1 c.lines_from.result.now ≡ drop (c.loop-at.at + (1 + c.take_answer-count.result.1)) c.args.lines.now =
    ap (λ lines. drop c.take_answer-count.result.1 lines) c.lines_from.ensures
    ∙ drop-drop c.take_answer-count.result.1 (c.loop-at.at + 1) c.args.lines.now ∙ ap (λ n. drop n c.args.lines.now) (omega arith) in
    let untold : goes_on (drop (c.loop-at.at + (1 + c.take_answer-count.result.1)) c.args.lines.now) ≡ false = ap goes_on (sym rest) ∙ c.take_answer-count.ensures.over short in
    short_pushed (Some End) _ _ _ _ c.in_ok-push_exchange.ensures (record { heard = c.if-is.ensures.0 refl; answer = c.take_answer-count.ensures.answer }) short untold

pub loop-at-preserved : goal.loop-at-preserved
loop-at-preserved c =
    let whole : is_some c.take_answer-count.result.0.end ≡ true = sym c.if-not-is_whole.ensures in
    record {
      lines = (let from = c.lines_from.ensures in grind (arith, common_steps, from));
      within = (let from = c.lines_from.ensures in let w = c.take_answer-count.ensures.within in grind (arith, common_steps, from, w));
      exchanges = exchange_pushed _ _ _ c.in_ok-push_exchange.ensures c.loop-at.invariant.exchanges (record { heard = c.if-is.ensures.0 refl; answer = c.take_answer-count.ensures.answer });
      whole = rw c.in_ok-push_exchange.ensures (whole-append _ _ c.loop-at.invariant.whole whole);
      answered = whole_pushed (Some End) _ _ _ c.in_ok-push_exchange.ensures (record { heard = c.if-is.ensures.0 refl; answer = c.take_answer-count.ensures.answer }) whole;
    }

pub returns-clause-whole : goal.returns-clause-whole
returns-clause-whole c = all_are_whole _ c.loop-at.invariant.whole

pub returns-clause-over : goal.returns-clause-over
returns-clause-over c =
    elim c.loop-at-test.branch [
      | then-loop-at-test+else-is w ↦ begin_behind_whole _ c.args.lines.now c.loop-at.at c.loop-at.invariant.answered (λ lt is. let no = w.if-is.ensures.1 is in cc)
      | else-loop-at-test w ↦ begin_behind_whole _ c.args.lines.now c.loop-at.at c.loop-at.invariant.answered (λ lt. absurd (omega (arith, w.loop-at-test.false)))
    ]
