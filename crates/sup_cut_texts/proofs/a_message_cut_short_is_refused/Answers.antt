use Rattle.sup_wire.specs.Drafts.{IsDraftOf, SaysMessage}
use Rattle.sup_wire.specs.Faults.{IsInRange}
use Rattle.sup_cut_texts.proofs.CutTexts.{cut_refused}
use Rattle.sup_cut_texts.proofs.a_message_cut_short_is_refused.Goals as goal

pub returns : goal.returns
returns c = cut_refused IsDraftOf IsInRange c.args.text.now c.args.message.now c.args.kept c.requires.text c.requires.short SaysMessage c.decode.result c.decode.ensures.ok c.decode.ensures.fault
