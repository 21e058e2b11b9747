use Rattle.sup_wire.specs.Drafts.{IsDraftOf, IsDraftOfImage, IsWholeMessage, IsWholeImage, SaysMessage, SaysImage}
use Rattle.sup_wire.specs.DraftReads.{message_at, stored_at}
use Rattle.sup_wire.proofs.DraftLaws.{message_again, stored_again, version_again}
use Rattle.sup_wire.proofs.DraftsOf.{message_kind, one_message, image_kind, one_image}
use Rattle.sup_wire.proofs.Promises.{says_one}
use Rattle.sup_wire.proofs.laws.a_text_says_one.Goals as goal

pub returns-clause-message : goal.returns-clause-message
returns-clause-message c = says_one IsDraftOf IsWholeMessage SaysMessage message_at message_again version_again message_kind one_message

pub returns-clause-image : goal.returns-clause-image
returns-clause-image c = says_one IsDraftOfImage IsWholeImage SaysImage stored_at stored_again version_again image_kind one_image
