-- Messages in a log: which of them leaves, and which comes (this project).
use Rattle.std.specs.Prelude.{ℕ, Bool, false, true, ◌==◌, ◌&&◌, List, find, bytes_eq, Option, Some, None}
use Rattle.std.specs.List.{list_any}
use Rattle.std.specs.Option.{option_and_then}
use Rattle.sup_specs.specs.Values.{Bytes}
use Rattle.sup_picture.specs.declared.log.Message.{Message}
use Rattle.sup_picture.specs.declared.log.Post.{Post}
use Rattle.sup_picture.specs.declared.log.Post.TheVariants.{Left, Came}
use Rattle.sup_picture.specs.declared.log.Way.{Way}
use Rattle.sup_picture.specs.declared.log.Way.TheVariants.{Learned, Known, Acked, Cut, Misdirected, Refused}

-- the same number of the same sender
abbrev pub is_of : Message → Message → Bool
is_of message other = (message.number == other.number) && bytes_eq message.from other.from

abbrev pub leaves : Message → Post → Bool
leaves message (Left other to row) = is_of message other
leaves message (Came other at way row) = false

-- nothing of it was missing, and no node told that it was for another
abbrev pub is_whole : Way → Bool
is_whole Learned = true
is_whole Known = true
is_whole Acked = true
is_whole Cut = false
is_whole Misdirected = false
is_whole Refused = true

-- it comes whole, and to its receiver
abbrev pub comes_whole : Message → Bytes → Post → Bool
comes_whole message to (Left other receiver row) = false
comes_whole message to (Came other at way row) = (is_whole way && is_of message other) && bytes_eq at to

abbrev pub came_whole : List Post → Message → Bytes → Bool
came_whole posts message to = list_any (comes_whole message to) posts

-- where a message leaves, its row and its receiver
abbrev pub row_at : Post → Option ℕ
row_at (Left message to row) = Some row
row_at (Came message at way row) = None

abbrev pub receiver_at : Post → Option Bytes
receiver_at (Left message to row) = Some to
receiver_at (Came message at way row) = None

-- the row in which a message left
abbrev pub left_row : List Post → Message → Option ℕ
left_row posts message = option_and_then row_at (find (leaves message) posts)

-- the receiver of a message that left
abbrev pub receiver_of : List Post → Message → Option Bytes
receiver_of posts message = option_and_then receiver_at (find (leaves message) posts)
