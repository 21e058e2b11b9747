use Rattle.sup_wire.specs.Drafts.{IsDraftOf, IsWholeMessage, SaysMessage}
use Rattle.sup_wire.specs.DraftReads.{message_at}
use Rattle.sup_wire.proofs.DraftLaws.{message_takes, message_again, version_again}
use Rattle.sup_wire.proofs.DraftsOf.{message_kind, message_sound, one_message}
use Rattle.sup_wire.proofs.Promises.{decode_ok, decode_fault, decode_only}
use Rattle.sup_wire.proofs.codec.decode.Goals as goal

pub returns-clause-ok : goal.returns-clause-ok
returns-clause-ok c = decode_ok IsDraftOf IsWholeMessage SaysMessage message_at message_takes _ _ c.message_of.result c.in_ok-value.ensures.ok c.message_of.ensures

pub returns-clause-only : goal.returns-clause-only
returns-clause-only c =
    decode_only IsDraftOf IsWholeMessage SaysMessage message_at message_takes message_again message_kind message_sound one_message version_again _ _ c.message_of.result c.in_ok-value.ensures.ok c.message_of.ensures

pub returns-clause-fault : goal.returns-clause-fault
returns-clause-fault c = decode_fault IsDraftOf IsWholeMessage SaysMessage message_at message_takes message_again _ _ c.message_of.result c.in_ok-value.ensures.ok c.message_of.ensures
