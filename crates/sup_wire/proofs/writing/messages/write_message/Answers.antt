use Rattle.std.proofs.Common.{sym, subst}
use Rattle.std.specs.Prelude.{OnOk}
use Rattle.sup_wire.specs.declared.message.Message.{Message}
use Rattle.sup_wire.specs.Drafts.{IsCut, IsDraftOf}
use Rattle.sup_wire.specs.Faults.{IsInRange}
use Rattle.sup_wire.specs.Writing.{WritesDraft, parts_lent}
use Rattle.sup_wire.proofs.Written.{writes_ack, writes_push, writes_delta, cut_of, on_ok_three, on_ok_four}
use Rattle.sup_wire.proofs.writing.messages.write_message.Goals as goal

pub returns-in-Ack-clause-draft : goal.returns-in-Ack-clause-draft
returns-in-Ack-clause-draft c =
    subst (λ (m : Message). OnOk c.write_ack.result (WritesDraft IsDraftOf IsInRange c.args.out.now c.write_ack.new.out m)) (sym c.in-Ack.is)
    (on_ok_three c.write_ack.result (λ a b adds. writes_ack _ _ c.in-Ack.from c.in-Ack.to c.in-Ack.n c.write_ack.ensures.fits a b adds) c.write_ack.ensures.from c.write_ack.ensures.to c.write_ack.ensures.adds)

pub returns-in_ok-parts-in-Push-clause-draft : goal.returns-in_ok-parts-in-Push-clause-draft
returns-in_ok-parts-in-Push-clause-draft c =
    let p = parts_lent c.in_ok-parts-in-Push.parts in
    let cut : IsCut c.in-Push.delta p = cut_of _ _ _ p c.context.ensures.value (rw (c.deref.ensures.value) c.in_ok-rows-in-Push.ensures.rows) c.in_ok-parts-in-Push.ensures in
    subst (λ (m : Message). OnOk c.write_push.result (WritesDraft IsDraftOf IsInRange c.args.out.now c.write_push.new.out m)) (sym c.in-Push.is)
    (on_ok_four c.write_push.result (λ a b written adds. writes_push _ _ c.in-Push.delta p c.in_ok-rows-in-Push.ensures.whole.counted c.in_ok-rows-in-Push.ensures.whole.covered cut written c.in-Push.from c.in-Push.to a b adds)
    c.write_push.ensures.from c.write_push.ensures.to c.write_push.ensures.written c.write_push.ensures.adds)

pub returns-in_ok-parts-in-Delta-clause-draft : goal.returns-in_ok-parts-in-Delta-clause-draft
returns-in_ok-parts-in-Delta-clause-draft c =
    let p = parts_lent c.in_ok-parts-in-Delta.parts in
    let cut : IsCut c.in-Delta.delta p = cut_of _ _ _ p c.context-in-Delta.ensures.value (rw (c.deref-in-Delta.ensures.value) c.in_ok-rows-in-Delta.ensures.rows) c.in_ok-parts-in-Delta.ensures in
    subst (λ (m : Message). OnOk c.write_delta.result (WritesDraft IsDraftOf IsInRange c.args.out.now c.write_delta.new.out m)) (sym c.in-Delta.is)
    (on_ok_four c.write_delta.result (λ a b written adds. writes_delta _ _ c.in-Delta.delta p c.in_ok-rows-in-Delta.ensures.whole.counted c.in_ok-rows-in-Delta.ensures.whole.covered cut written c.in-Delta.from c.in-Delta.to c.in-Delta.n c.write_delta.ensures.fits a b adds)
    c.write_delta.ensures.from c.write_delta.ensures.to c.write_delta.ensures.written c.write_delta.ensures.adds)
