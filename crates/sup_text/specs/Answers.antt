-- What a step prints: one line, then its effects, then its letter (this project's output format).
use Rattle.std.specs.Prelude.{ℕ, List, [], ◌∷◌, codes, decimal, Option, Some, None}
use Rattle.std.specs.List.{flat_map}
use Rattle.sup_specs.specs.Values.{Bytes}
use Rattle.sup_local_sup.specs.declared.effect.Effect.{Effect}
use Rattle.sup_local_sup.specs.declared.effect.Effect.TheVariants.{Start, Stop}
use Rattle.sup_replica.specs.declared.done.Done.{Done}
use Rattle.sup_replica.specs.declared.done.Reply.{Reply}
use Rattle.sup_replica.specs.declared.done.Reply.TheVariants.{Added, Replaced, Removed, Restarted, Finished, GaveUp, Sent, Absorbed, Known, Acked, Stopped, Boot}
use Rattle.sup_replica.specs.declared.letter.Letter.{Letter}
use Rattle.sup_replica.specs.declared.letter.LetterKind.{LetterKind}
use Rattle.sup_replica.specs.declared.letter.LetterKind.TheVariants.{Part, Whole, Push, Ack}
use Rattle.sup_replica.specs.declared.refusal.Refusal.{Refusal}
use Rattle.sup_replica.specs.declared.refusal.Refusal.TheVariants.{Down, AlreadyUp, UnknownNode, AlreadyPresent, NotFound, AlreadyMember, NotMember, NameTaken, NoSuchChild, NameUnknown, DotsSpent, UpToDate, NoSuchMessage, StaleExit, TableFull, KeepFailed, BadMessage, WrongReceiver, OutOfMemory, HistoryFull, CountSpent, NothingToPush, AlreadyDraining}
use Rattle.sup_replica.specs.Refusals.{number_of}
use Rattle.sup_text.specs.Words.{text, dot_text, spaced_dot, incarnation_text}

abbrev pub refusal_name : Refusal → List ℕ
refusal_name Down = codes "Down"
refusal_name AlreadyUp = codes "AlreadyUp"
refusal_name UnknownNode = codes "UnknownNode"
refusal_name AlreadyPresent = codes "AlreadyPresent"
refusal_name NotFound = codes "NotFound"
refusal_name AlreadyMember = codes "AlreadyMember"
refusal_name NotMember = codes "NotMember"
refusal_name NameTaken = codes "NameTaken"
refusal_name NoSuchChild = codes "NoSuchChild"
refusal_name NameUnknown = codes "NameUnknown"
refusal_name DotsSpent = codes "DotsSpent"
refusal_name UpToDate = codes "UpToDate"
refusal_name NoSuchMessage = codes "NoSuchMessage"
refusal_name StaleExit = codes "StaleExit"
refusal_name TableFull = codes "TableFull"
refusal_name KeepFailed = codes "KeepFailed"
refusal_name BadMessage = codes "BadMessage"
refusal_name WrongReceiver = codes "WrongReceiver"
refusal_name OutOfMemory = codes "OutOfMemory"
refusal_name HistoryFull = codes "HistoryFull"
refusal_name CountSpent = codes "CountSpent"
refusal_name NothingToPush = codes "NothingToPush"
refusal_name AlreadyDraining = codes "AlreadyDraining"

-- refused 4 AlreadyPresent
abbrev pub refusal_text : Refusal → List ℕ
refusal_text refusal = text (codes "refused " ∷ decimal (number_of refusal) ∷ codes " " ∷ refusal_name refusal ∷ codes "\n" ∷ [])

-- ok (a,2), ok (a,3) removed (a,2), ok removed (a,2) (a,3), ok finished (a,2), ok boot 2, ..
abbrev pub reply_text : Reply → List ℕ
reply_text (Added dot) = text (codes "ok " ∷ dot_text dot ∷ codes "\n" ∷ [])
reply_text (Replaced dot dots) = text (codes "ok " ∷ dot_text dot ∷ codes " removed" ∷ flat_map spaced_dot dots ∷ codes "\n" ∷ [])
reply_text (Removed dots) = text (codes "ok removed" ∷ flat_map spaced_dot dots ∷ codes "\n" ∷ [])
reply_text Restarted = codes "ok restarted\n"
reply_text (Finished dot) = text (codes "ok finished " ∷ dot_text dot ∷ codes "\n" ∷ [])
reply_text (GaveUp dots) = text (codes "ok gave up removed" ∷ flat_map spaced_dot dots ∷ codes "\n" ∷ [])
reply_text Sent = codes "ok sent\n"
reply_text Absorbed = codes "ok absorbed\n"
reply_text Known = codes "ok known\n"
reply_text Acked = codes "ok acked\n"
reply_text Stopped = codes "ok stopped\n"
reply_text (Boot boot) = text (codes "ok boot " ∷ decimal boot ∷ codes "\n" ∷ [])

-- start web 1.1, stop web 1.1
abbrev pub change_text : Effect → List ℕ
change_text (Start id inc spec) = text (codes "start " ∷ id ∷ codes " " ∷ incarnation_text inc ∷ [])
change_text (Stop id inc) = text (codes "stop " ∷ id ∷ codes " " ∷ incarnation_text inc ∷ [])

-- a start web 1.1, after two spaces, at the node where it is to be done
abbrev pub effect_text : Bytes → Effect → List ℕ
effect_text at effect = text (codes "  " ∷ at ∷ codes " " ∷ change_text effect ∷ codes "\n" ∷ [])

-- delta 2 part, delta 3 whole, push, ack 2
abbrev pub letter_kind_text : LetterKind → List ℕ
letter_kind_text (Part n) = text (codes "delta " ∷ decimal n ∷ codes " part" ∷ [])
letter_kind_text (Whole n) = text (codes "delta " ∷ decimal n ∷ codes " whole" ∷ [])
letter_kind_text Push = codes "push"
letter_kind_text (Ack n) = text (codes "ack " ∷ decimal n ∷ [])

-- sent a 1 to b delta 2 part, after two spaces: who sends, and which of its messages it is
abbrev pub letter_text : Bytes → ℕ → Letter → List ℕ
letter_text from k letter = text (codes "  sent " ∷ from ∷ codes " " ∷ decimal k ∷ codes " to " ∷ letter.to ∷ codes " " ∷ letter_kind_text letter.kind ∷ codes "\n" ∷ [])

-- the line of a letter that left, which has a number then
abbrev pub sent_text : Bytes → Option Letter → Option ℕ → List ℕ
sent_text from None number = []
sent_text from (Some letter) None = []
sent_text from (Some letter) (Some k) = letter_text from k letter

-- what is printed of an answer: the reply, its effects in order, and its letter
abbrev pub answer_text : Bytes → Done → Option ℕ → List ℕ
answer_text at done number = text (reply_text done.reply ∷ flat_map (effect_text at) done.effects ∷ sent_text at done.out number ∷ [])

-- ok settled N, how many messages were sent; then what is to be done, each at its node
abbrev pub settled_text : ℕ → List (Bytes × Effect) → List ℕ
settled_text messages effects = text (codes "ok settled " ∷ decimal messages ∷ codes "\n" ∷ flat_map (λ e. effect_text e.0 e.1) effects ∷ [])
