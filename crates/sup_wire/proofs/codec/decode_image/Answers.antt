use Rattle.sup_wire.specs.Drafts.{IsDraftOfImage, IsWholeImage, SaysImage}
use Rattle.sup_wire.specs.DraftReads.{stored_at}
use Rattle.sup_wire.proofs.DraftLaws.{stored_takes, stored_again, version_again}
use Rattle.sup_wire.proofs.DraftsOf.{image_kind, image_sound, one_image}
use Rattle.sup_wire.proofs.Promises.{decode_ok, decode_fault, decode_only}
use Rattle.sup_wire.proofs.codec.decode_image.Goals as goal

pub returns-clause-ok : goal.returns-clause-ok
returns-clause-ok c = decode_ok IsDraftOfImage IsWholeImage SaysImage stored_at stored_takes _ _ c.image_of.result c.in_ok-value.ensures.ok c.image_of.ensures

pub returns-clause-only : goal.returns-clause-only
returns-clause-only c =
    decode_only IsDraftOfImage IsWholeImage SaysImage stored_at stored_takes stored_again image_kind image_sound one_image version_again _ _ c.image_of.result c.in_ok-value.ensures.ok c.image_of.ensures

pub returns-clause-fault : goal.returns-clause-fault
returns-clause-fault c = decode_fault IsDraftOfImage IsWholeImage SaysImage stored_at stored_takes stored_again _ _ c.image_of.result c.in_ok-value.ensures.ok c.image_of.ensures
