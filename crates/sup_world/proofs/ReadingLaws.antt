-- A text is read as one thing alone.
use Rattle.std.specs.Prelude.{◌≡◌, ℕ, Bool, Option, Some, None, refl}
use Rattle.std.proofs.Common.{sym, ap, ◌∙◌}
use Rattle.sup_specs.specs.Values.{Bytes}
use Rattle.sup_tables.specs.States.{State}
use Rattle.sup_placement.specs.Place.{Weigher}
use Rattle.sup_wire.specs.declared.message.Message.{Message}
use Rattle.sup_wire.specs.declared.image.Image.{Image}
use Rattle.sup_wire.specs.Drafts.{IsDraftOf, IsDraftOfImage, IsWholeMessage, IsWholeImage, SaysMessage, SaysImage}
use Rattle.sup_wire.specs.DraftReads.{message_at, stored_at}
use Rattle.sup_wire.specs.Faults.{TextSays}
use Rattle.sup_wire.proofs.DraftLaws.{message_again, stored_again, version_again}
use Rattle.sup_wire.proofs.DraftsOf.{message_kind, one_message, image_kind, one_image}
use Rattle.sup_wire.proofs.Promises.{says_one}
use Rattle.sup_replica.specs.declared.event.Event.{Event}
use Rattle.sup_replica.specs.declared.event.Event.TheVariants.{Join, Leave, Drain, Start, Replace, Delete, Register, Unregister, Exit, Ship, Push, Deliver}
use Rattle.sup_replica.specs.Stations.{Station, Mail}
use Rattle.sup_node.specs.NodeSteps.{ReadsMail, stepped}
use Rattle.sup_node.specs.Texts.{IsReadAs, mail_of}

pub same_message : (text : Bytes) (m n : Message) → IsWholeMessage m → IsWholeMessage n → TextSays IsDraftOf text m → TextSays IsDraftOf text n → n ≡ m
same_message = says_one IsDraftOf IsWholeMessage SaysMessage message_at message_again version_again message_kind one_message

pub same_image : (text : Bytes) (i j : Image) → IsWholeImage i → IsWholeImage j → TextSays IsDraftOfImage text i → TextSays IsDraftOfImage text j → j ≡ i
same_image = says_one IsDraftOfImage IsWholeImage SaysImage stored_at stored_again version_again image_kind one_image

pub same_mail : (bytes : Bytes) (a b : Option (Mail State)) → IsReadAs bytes a → IsReadAs bytes b → a ≡ b
same_mail bytes None None h k = refl
same_mail bytes None (Some y) h k = absurd (h k.0 k.1 k.2)
same_mail bytes (Some x) None h k = absurd (k h.0 h.1 h.2)
same_mail bytes (Some x) (Some y) h k = ap Some (h.3 ∙ ap mail_of (same_message bytes k.0 h.0 k.1 h.1 k.2 h.2) ∙ sym k.3)

-- an event is one step, whatever its bytes are said to be read as
pub same_step : (g : Weigher) (s : Station State) (event : Event) (now : ℕ) (a b : Option (Mail State)) (saves : Bool) → ReadsMail event a → ReadsMail event b → stepped g s event now a saves ≡ stepped g s event now b saves
same_step g s (Deliver bytes) now a b saves h k = ap (λ m. stepped g s (Deliver bytes) now m saves) (same_mail bytes a b h k)
same_step g s (Join label) now a b saves h k = refl
same_step g s (Leave m) now a b saves h k = refl
same_step g s (Drain m) now a b saves h k = refl
same_step g s (Start id spec) now a b saves h k = refl
same_step g s (Replace id spec) now a b saves h k = refl
same_step g s (Delete id) now a b saves h k = refl
same_step g s (Register name id) now a b saves h k = refl
same_step g s (Unregister name) now a b saves h k = refl
same_step g s (Exit id inc reason) now a b saves h k = refl
same_step g s (Ship to) now a b saves h k = refl
same_step g s (Push to) now a b saves h k = refl
