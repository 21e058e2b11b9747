use Rattle.std.proofs.Common.{◌++◌, ◌+◌, ◌∷◌, [], List, ap, ◌∙◌, sym, subst, arith, append_assoc}
use Rattle.std.proofs.lemmas.List.{set-get_or}
use Rattle.sup_links.specs.declared.held.Held.{Held}
use Rattle.sup_links.specs.Texts.{texts}
use Rattle.sup_links.proofs.LoopLaws.{Went, went_one, went_none}
use Rattle.sup_links.proofs.TextLaws.{texts_more}
use Rattle.sup_links.proofs.images.push_due.Goals as goal
use Rattle.sup_links.proofs.images.push_due.Goals.{then-message-eq0+in_ok-push, else-message-eq0}

pub loop-message-preserved : goal.loop-message-preserved
loop-message-preserved c =
    let kept = c.loop-message.invariant in
    let was = c.deref_mut-message-items.result.now in
    let items = c.loop-message.message-items in
    let place = c.loop-message.message-index in
    elim c.if-message-eq0.branch [
      | then-message-eq0+in_ok-push w ↦ (
        kept.0 ++ w.replace.result.items ∷ [],
        subst (λ (hs : List Held). Went was hs (place + 1) (kept.0 ++ w.replace.result.items ∷ [])) (sym w.message-items-is)
            (went_one was items place c.message-item.result _ w.replace.result.items kept.0 (omega arith) w.if-message-eq0.true w.if-message-eq0.true (ap (λ v. v.items) w.replace.ensures.value) kept.1),
        ap (λ o. texts o.items) w.out-is
            ∙ (ap texts w.in_ok-push.ensures.items ∙ (texts_more c.loop-message.out.items (w.replace.result ∷ []) ∙ (ap (λ l. l ++ w.replace.result.items ∷ []) kept.2 ∙ append_assoc (texts c.args.out.now.items) kept.0 (w.replace.result.items ∷ [])))),
      )
      | else-message-eq0 w ↦ (
        kept.0,
        subst (λ (hs : List Held). Went was hs (place + 1) kept.0) (sym (w.message-items-is ∙ set-get_or items place c.message-item.result)) (went_none was items place c.message-item.result kept.0 (omega arith) w.if-message-eq0.false kept.1),
        ap (λ o. texts o.items) w.out-is ∙ kept.2,
      )
    ]
