use Rattle.sup_wire.specs.Drafts.{IsDraftOf, IsDraftOfImage}
use Rattle.sup_wire.specs.Faults.{IsInRange, IsImageInRange}
use Rattle.sup_cut_texts.proofs.CutTexts.{cut_unread}
use Rattle.sup_cut_texts.proofs.a_text_cut_short_is_no_json.Goals as goal

pub returns-clause-message : goal.returns-clause-message
returns-clause-message c = cut_unread IsDraftOf IsInRange

pub returns-clause-image : goal.returns-clause-image
returns-clause-image c = cut_unread IsDraftOfImage IsImageInRange
