use Rattle.sup_wire.specs.Drafts.{IsDraftOf}
use Rattle.sup_wire.specs.Faults.{IsInRange}
use Rattle.sup_wire.proofs.Adding.{text_alone, says_text}
use Rattle.sup_wire.proofs.OneCut.{one_draft, one_text}
use Rattle.sup_wire.proofs.codec.encode.Goals as goal

pub returns-clause-text : goal.returns-clause-text
returns-clause-text c = text_alone IsDraftOf IsInRange c.args.message.now _ c.in_ok-text.text.items c.new.ensures.items c.in_ok-text.ensures.text

pub returns-clause-says : goal.returns-clause-says
returns-clause-says c =
    says_text IsDraftOf IsInRange c.args.message.now c.in_ok-text.text.items (text_alone IsDraftOf IsInRange c.args.message.now _ c.in_ok-text.text.items c.new.ensures.items c.in_ok-text.ensures.text)

pub returns-clause-once : goal.returns-clause-once
returns-clause-once c = λ other is.
    one_text IsDraftOf IsInRange one_draft c.args.message.now other c.in_ok-text.text.items is (text_alone IsDraftOf IsInRange c.args.message.now _ c.in_ok-text.text.items c.new.ensures.items c.in_ok-text.ensures.text)
