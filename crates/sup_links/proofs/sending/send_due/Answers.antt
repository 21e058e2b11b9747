use Rattle.std.proofs.Common.{◌++◌, ◌+◌, ◌∷◌, [], List, ap, refl, ◌∙◌, sym, subst, arith, drop}
use Rattle.std.proofs.lemmas.List.{set-get_or}
use Rattle.sup_links.specs.declared.held.Held.{Held}
use Rattle.sup_links.specs.Waiting.{waiting, due}
use Rattle.sup_links.specs.Texts.{put_said}
use Rattle.sup_links.proofs.LoopLaws.{Went, went_one, went_none, next_due}
use Rattle.sup_links.proofs.TextLaws.{sends_err, stops_less, stops_then, went_then}
use Rattle.sup_links.proofs.sending.send_due.Goals as goal
use Rattle.sup_links.proofs.sending.send_due.Goals.{then-message-eq0+in_ok-send, else-message-eq0}

pub returns-in_err-send-clause-put : goal.returns-in_err-send-clause-put
returns-in_err-send-clause-put g c =
    let kept = c.loop-message.invariant in
    let items = c.loop-message.message-items in
    let place = c.loop-message.message-index in
    let text = c.replace.result.items in
    let rest = due (waiting (drop (place + 1) items)) in
    sends_err c.from_residual.result _ _ _ c.from_residual.ensures.0
    (stops_then (put_said c.args.entry.now.pass) (put_said c.loop-message.entry.pass) (put_said c.send.new.entry.pass) kept.0 (text ∷ [] ++ rest) _
    (ap (λ hs. due (waiting hs)) (sym c.deref_mut-message-items.ensures.value) ∙ kept.1.order ∙ ap (λ l. kept.0 ++ l) (next_due items place c.message-item.result text (omega arith) c.if-message-eq0.true (ap (λ v. v.items) c.replace.ensures.value)))
    kept.2
    (stops_less (put_said c.loop-message.entry.pass) (put_said c.send.new.entry.pass) (text ∷ []) rest (text ∷ [] ++ rest) refl c.in_err-send.ensures.put))

pub loop-message-preserved : goal.loop-message-preserved
loop-message-preserved g c =
    let kept = c.loop-message.invariant in
    let was = c.deref_mut-message-items.result.now in
    let items = c.loop-message.message-items in
    let place = c.loop-message.message-index in
    elim c.if-message-eq0.branch [
      | then-message-eq0+in_ok-send w ↦ (
        kept.0 ++ w.replace.result.items ∷ [],
        subst (λ (hs : List Held). Went was hs (place + 1) (kept.0 ++ w.replace.result.items ∷ [])) (sym w.message-items-is)
            (went_one was items place c.message-item.result _ w.replace.result.items kept.0 (omega arith) w.if-message-eq0.true w.if-message-eq0.true (ap (λ v. v.items) w.replace.ensures.value) kept.1),
        ap (λ e. put_said e.pass) w.entry-is ∙ went_then (put_said c.args.entry.now.pass) (put_said c.loop-message.entry.pass) (put_said w.send.new.entry.pass) kept.0 (w.replace.result.items ∷ []) kept.2 w.in_ok-send.ensures.put,
        ap (λ e. e.end) w.entry-is ∙ (w.in_ok-send.ensures.end ∙ kept.3),
      )
      | else-message-eq0 w ↦ (
        kept.0,
        subst (λ (hs : List Held). Went was hs (place + 1) kept.0) (sym (w.message-items-is ∙ set-get_or items place c.message-item.result)) (went_none was items place c.message-item.result kept.0 (omega arith) w.if-message-eq0.false kept.1),
        ap (λ e. put_said e.pass) w.entry-is ∙ kept.2,
        ap (λ e. e.end) w.entry-is ∙ kept.3,
      )
    ]
