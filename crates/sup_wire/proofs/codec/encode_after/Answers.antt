use Rattle.sup_wire.specs.Drafts.{IsDraftOf}
use Rattle.sup_wire.specs.Faults.{IsInRange}
use Rattle.sup_wire.proofs.Adding.{text_after}
use Rattle.sup_wire.proofs.codec.encode_after.Goals as goal

pub returns-clause-text : goal.returns-clause-text
returns-clause-text c =
    text_after IsDraftOf IsInRange c.args.message.now _ c.write_message.new.out c.args.front.items c.into_inner.result.items c.new-out.ensures.before c.new-out.ensures.tokens c.in_ok-write_message.ensures.draft
    c.into_inner.ensures.items c.into_inner.ensures.reads_back c.into_inner.ensures.utf8
