use Rattle.sup_wire.specs.Drafts.{IsDraftOf, IsDraftOfImage}
use Rattle.sup_wire.specs.Faults.{IsInRange, IsImageInRange}
use Rattle.sup_cut_texts.proofs.CutTexts.{cut_says_none}
use Rattle.sup_cut_texts.proofs.a_text_cut_short_says_nothing.Goals as goal

pub returns-clause-message : goal.returns-clause-message
returns-clause-message c = cut_says_none IsDraftOf IsInRange

pub returns-clause-image : goal.returns-clause-image
returns-clause-image c = cut_says_none IsDraftOfImage IsImageInRange
