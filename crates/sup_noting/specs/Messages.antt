-- What a step's answer tells of messages (this project).
use Rattle.std.specs.Prelude.{ℕ, ◌==◌, List, [], ◌∷◌, unwrap_or, Option, Some, None, if◌then◌else◌}
use Rattle.sup_specs.specs.Values.{Bytes}
use Rattle.sup_model.specs.declared.step.Step.{Step}
use Rattle.sup_model.specs.declared.step.Step.TheVariants.{Node as AtNode, Deliver, Raw}
use Rattle.sup_picture.specs.declared.log.Message.{Message}
use Rattle.sup_picture.specs.declared.log.Post.{Post}
use Rattle.sup_picture.specs.declared.log.Post.TheVariants.{Left, Came}
use Rattle.sup_picture.specs.declared.log.Way.{Way}
use Rattle.sup_picture.specs.declared.log.Way.TheVariants as way
use Rattle.sup_picture.specs.Messages.{receiver_of}
use Rattle.sup_replica.specs.declared.done.Reply.{Reply}
use Rattle.sup_replica.specs.declared.done.Reply.TheVariants.{Known, Acked}
use Rattle.sup_replica.specs.declared.letter.Letter.{Letter}
use Rattle.sup_replica.specs.declared.refusal.Refusal.{Refusal}
use Rattle.sup_replica.specs.declared.refusal.Refusal.TheVariants.{NoSuchMessage, UnknownNode, WrongReceiver}

abbrev pub message_of : Bytes → ℕ → Message
message_of from number = record { from = from; number = number }

-- what became of a whole message
abbrev pub way_whole : Reply → Way
way_whole Known = way.Known
way_whole Acked = way.Acked
way_whole reply = way.Learned

abbrev pub way_done : ℕ → Reply → Way
way_done drop reply = if drop == 0 then way_whole reply else way.Cut

-- what became of a message that was refused, though no node told that it was for another
abbrev pub way_in_vain : ℕ → Way
way_in_vain drop = if drop == 0 then way.Refused else way.Cut

-- what became of a message that was refused; nothing where there is no such message or node
abbrev pub way_refused : ℕ → Refusal → Option Way
way_refused drop NoSuchMessage = None
way_refused drop UnknownNode = None
way_refused drop WrongReceiver = Some way.Misdirected
way_refused drop refusal = Some (way_in_vain drop)

-- where a message comes: to the node that is named, or else to its receiver, which is known where it left in a row
abbrev pub receiver : List Post → Message → Option Bytes → Option Bytes
receiver posts message (Some at) = Some at
receiver posts message None = receiver_of posts message

-- a delivery's message came to the node that answered
abbrev pub came_done : ℕ → Step → Bytes → Reply → List Post
came_done row (AtNode node act now saves) at reply = []
came_done row (Deliver from k to drop now saves) at reply = Came (message_of from k) at (way_done drop reply) row ∷ []
came_done row (Raw node bytes) at reply = []

-- a letter left with this number
abbrev pub left_by : ℕ → Bytes → Option Letter → Option ℕ → List Post
left_by row from None number = []
left_by row from (Some letter) None = []
left_by row from (Some letter) (Some number) = Left (message_of from number) letter.to row ∷ []

abbrev pub came_at : ℕ → Message → Option Bytes → Option Way → List Post
came_at row message None way = []
came_at row message (Some at) None = []
came_at row message (Some at) (Some way) = Came message at way row ∷ []

-- A delivery's message came and was refused. Nothing where it was refused since there is no such message or node, or where no
-- node is named and it left in no row.
abbrev pub came_refused : List Post → ℕ → Step → Refusal → List Post
came_refused posts row (AtNode node act now saves) refusal = []
came_refused posts row (Deliver from k at drop now saves) refusal = came_at row (message_of from k) (receiver posts (message_of from k) at) (way_refused drop refusal)
came_refused posts row (Raw node bytes) refusal = []

-- the node to which a step came: of a delivery that names no node, of a message that was never sent or left in a settling, its
-- sender
abbrev pub place_of : List Post → Step → Bytes
place_of posts (AtNode node act now saves) = node
place_of posts (Deliver from k at drop now saves) = unwrap_or (receiver posts (message_of from k) at) from
place_of posts (Raw node bytes) = node
