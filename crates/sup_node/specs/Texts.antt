-- What the bytes of a letter or an image say: the forms of messages and images.
use Rattle.std.specs.Prelude.{◌≡◌, ℕ, true, false, [], List, Option, Some, None}
use Rattle.sup_specs.specs.Values.{Bytes}
use Rattle.sup_tables.specs.declared.row.Row.{Row}
use Rattle.sup_causal.specs.Dots.{Context}
use Rattle.sup_tables.specs.States.{State}
use Rattle.sup_wire.specs.declared.message.Message.{Message}
use Rattle.sup_wire.specs.declared.message.Message.TheVariants.{Ack, Push, Delta}
use Rattle.sup_wire.specs.declared.image.Image.{Image}
use Rattle.sup_wire.specs.Drafts.{IsDraftOf, IsDraftOfImage, IsWhole, IsWholeMessage, IsWholeImage}
use Rattle.sup_wire.specs.RowTexts.{AreRows}
use Rattle.sup_wire.specs.Faults.{TextSays, IsTextOf, IsInRange, IsImageInRange}
use Rattle.sup_image_text.specs.declared.next_image.NextImage.{NextImage}
use Rattle.sup_image_text.specs.Next.{IsNext}
use Rattle.sup_replica.specs.declared.letter.Letter.{Letter}
use Rattle.sup_replica.specs.declared.done.Done.{Done}
use Rattle.sup_replica.specs.Nodes.{Node}
use Rattle.sup_node.specs.declared.change.Change.{Change}
use Rattle.sup_node.specs.Changes.{image_after}
use Rattle.sup_replica.specs.Stations.{Mail, a_delta, a_push, an_ack, MailCodec, StationMove, receiver_of, kind_of}

-- the message that mail is written as: whether a delta is all that its sender knows isn't written
abbrev pub message_of : Mail State → Message
message_of (a_delta from to n whole content) = Delta from to n content
message_of (a_push from to content) = Push from to content
message_of (an_ack from to n) = Ack from to n

-- the mail that a message is taken as
abbrev pub mail_of : Message → Mail State
mail_of (Delta from to n content) = a_delta from to n false content
mail_of (Push from to content) = a_push from to content
mail_of (Ack from to n) = an_ack from to n

-- the text is the one that is written of the message, and is read as the message
pub record IsMessageText (text : Bytes) (m : Message) : Type 0 where
  pub form : IsTextOf IsDraftOf IsInRange text m
  pub says : TextSays IsDraftOf text m
  pub whole : IsWholeMessage m

pub record IsImageText (text : Bytes) (i : Image) : Type 0 where
  pub form : IsTextOf IsDraftOfImage IsImageInRange text i
  pub says : TextSays IsDraftOfImage text i
  pub whole : IsWholeImage i

-- where there is a next image, this is how it comes of one with these rows
abbrev pub IsNextOf : List Row → Option Image → Option NextImage → Type 0
IsNextOf rows None None = Unit {0}
IsNextOf rows None (Some next) = ⊥
IsNextOf rows (Some image) None = ⊥
IsNextOf rows (Some image) (Some next) = IsNext rows image next

-- the same of the image that is to be once a change is carried out at a node
abbrev pub IsNextAfter : Node State → Change → Option NextImage → Type 0
IsNextAfter n change next = IsNextOf n.known.rows (image_after n change) next

-- the mail that bytes are read as; none where no message has these bytes
abbrev pub IsReadAs : Bytes → Option (Mail State) → Type 0
IsReadAs bytes None = (m : Message) → IsWholeMessage m → ¬ TextSays IsDraftOf bytes m
IsReadAs bytes (Some mail) = (m : Message) × IsWholeMessage m × TextSays IsDraftOf bytes m × (mail ≡ mail_of m)

-- the same of an image
abbrev pub IsImageReadAs : Bytes → Option Image → Type 0
IsImageReadAs bytes None = (i : Image) → IsWholeImage i → ¬ TextSays IsDraftOfImage bytes i
IsImageReadAs bytes (Some image) = IsWholeImage image × TextSays IsDraftOfImage bytes image

-- a codec that reads this; what is written is said of the letter alone
abbrev pub reads_as : Option (Mail State) → MailCodec State
reads_as mail = record { write = λ _. []; read = λ _. mail }

-- the letter is this mail's
pub record IsLetter (mail : Mail State) (letter : Letter) : Type 0 where
  pub to : letter.to ≡ receiver_of mail
  pub kind : letter.kind ≡ kind_of mail
  pub text : IsMessageText letter.bytes (message_of mail)

-- the letter of all that a node knows: of each state with these texts of its rows and this context
abbrev pub IsWholeLetter : Bytes → Bytes → ℕ → List Bytes → Context → Letter → Type 0
IsWholeLetter from to n texts context letter = (s : State) → AreRows s.rows texts → s.context ≡ context → IsWhole s → IsLetter (a_delta from to n true s) letter

abbrev pub IsLetterOf : Option (Mail State) → Option Letter → Type 0
IsLetterOf None None = Unit {0}
IsLetterOf None (Some letter) = ⊥
IsLetterOf (Some mail) None = ⊥
IsLetterOf (Some mail) (Some letter) = IsLetter mail letter

-- the answer is this move's
pub record IsDoneOf (move : StationMove State) (done : Done) : Type 0 where
  pub reply : done.reply ≡ move.done.reply
  pub effects : done.effects ≡ move.done.effects
  pub letter : IsLetterOf move.letter done.out
