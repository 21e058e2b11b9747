use Rattle.sup_wire.specs.Drafts.{IsDraftOf, IsDraftOfImage, SaysMessage, SaysImage}
use Rattle.sup_wire.specs.Faults.{IsInRange, IsImageInRange}
use Rattle.sup_cut_texts.proofs.CutTexts.{cut_refused}
use Rattle.sup_cut_texts.proofs.a_text_cut_short_is_refused.Goals as goal

pub returns-clause-message : goal.returns-clause-message
returns-clause-message c = λ text x k is short answer. cut_refused IsDraftOf IsInRange text x k is short SaysMessage answer

pub returns-clause-image : goal.returns-clause-image
returns-clause-image c = λ text x k is short answer. cut_refused IsDraftOfImage IsImageInRange text x k is short SaysImage answer
