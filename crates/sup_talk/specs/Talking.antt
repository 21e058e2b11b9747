-- A talk: lines are heard, and each is answered before the next is heard (this project).
use Rattle.std.specs.Prelude.{◌≡◌, ◌≤◌, ◌<◌, ◌⊎◌, ℕ, List, [], ◌∷◌, ◌++◌, length, All, Option, None, Some, Result, Ok, Err, Bool, true, false}
use Rattle.std.specs.Global.{Vec}
use Rattle.std.specs.List.{flat_map}
use Rattle.std.specs.Io.KnownBytes.{IsAtEnd}
use Rattle.sup_talk.specs.Taking.{IsUnbroken}
use Rattle.sup_talk.specs.Hosts.{Seen, Event, Awaited, Heard, Silent, Told, Exchanges, IsToldShort}
use Rattle.sup_talk.specs.declared.talking.TalkEnd.{TalkEnd}
use Rattle.sup_talk.specs.declared.talking.TalkEnd.TheVariants.{Ended, Over, Spent}
use Rattle.sup_talk.specs.declared.talking.TalkFault.{TalkFault}
use Rattle.sup_talk.specs.declared.talking.TalkFault.TheVariants.{Device, OutOfMemory}

-- what an answerer in the first state says to a line, or to one that was too long, so that it is in the second
abbrev pub Answers : Type 0 → Type 1
Answers S = S → Option (List ℕ) → List ℕ → S → Type 0

-- where an answerer in the first state is refused memory at such a line, it may be in the second
abbrev pub Lacks : Type 0 → Type 1
Lacks S = S → Option (List ℕ) → S → Type 0

-- an answerer in this state may show this keeper
abbrev pub Shows : Type 0 → Type 0 → Type 1
Shows S K = S → K → Type 0

-- The keeper that the host was shown while it was awaited, the line that was taken from it, what was heard of that, what was told, and the
-- keeper that the host was shown then.
pub record Turn (K : Type 0) : Type 0 where
  pub awaiting : K
  pub taken : List ℕ
  pub heard : Option (List ℕ)  -- the line, or none where it was too long
  pub said : List ℕ
  pub keeper : K

-- the bytes of a line that was heard; of one that is too long nothing is heard but that
abbrev pub IsHeard : ℕ → List ℕ → Option (List ℕ) → Type 0
IsHeard most taken (Some line) = (length line ≤ most) × IsUnbroken line × (taken ≡ line ++ (10 ∷ []))
IsHeard most taken None = (line : List ℕ) × (most < length line) × IsUnbroken line × (taken ≡ line ++ (10 ∷ []))

-- each turn shows the keeper of a state that isn't over, answers what was heard, which leads to the next state, and shows the keeper of that
abbrev pub Follows : {S K : Type 0} → Answers S → Shows S K → (S → Bool) → S → List (Turn K) → S → Type 0
Follows answers shows over s [] t = s ≡ t
Follows {S} answers shows over s (turn ∷ turns) t = (over s ≡ false) × shows s turn.awaiting × (mid : S) × answers s turn.heard turn.said mid × shows mid turn.keeper × Follows answers shows over mid turns t

abbrev pub taken_by : {K : Type 0} → List (Turn K) → List ℕ
taken_by turns = flat_map (λ turn. turn.taken) turns

abbrev pub said_by : {K : Type 0} → List (Turn K) → List ℕ
said_by turns = flat_map (λ turn. turn.said) turns

-- each line is awaited and heard, then its answer is told, and then the next is awaited
abbrev pub events_of : {K : Type 0} → List (Turn K) → List (Event K)
events_of turns = flat_map (λ turn. Awaited turn.awaiting ∷ Heard turn.heard ∷ Told turn.said turn.keeper ∷ []) turns

-- The lines of these turns were heard, and the answer to each was told before the next was awaited.
pub record Talks {S K : Type 0} (answers : Answers S) (shows : Shows S K) (over : S → Bool) (most : ℕ) (s t : S) (before after : Seen K) (turns : List (Turn K)) : Type 0 where
  pub follows : Follows answers shows over s turns t
  pub heard : All (λ turn. IsHeard most turn.taken turn.heard) turns
  pub exchanges : Exchanges before after (taken_by turns) (said_by turns) (events_of turns)

-- The host is awaited, beside a keeper of this state, and says no more, once. What it didn't end by a line feed is gone, and is no line.
abbrev pub IsHeardOut : {S K : Type 0} → Shows S K → S → Seen K → Seen K → Type 0
IsHeardOut {S} {K} shows s before after = (keeper : K) × shows s keeper × (rest : List ℕ) × IsUnbroken rest × Exchanges before after rest [] (Awaited keeper ∷ Silent ∷ []) × IsAtEnd after.unread

-- the same, and no line was heard: a front of one is gone
abbrev pub IsUnheard : {S K : Type 0} → Shows S K → S → Seen K → Seen K → Type 0
IsUnheard {S} {K} shows s before after = (keeper : K) × shows s keeper × (front : List ℕ) × IsUnbroken front × Exchanges before after front [] (Awaited keeper ∷ [])

-- the same, and a line was heard, and nothing told yet
abbrev pub HearsLine : {S K : Type 0} → Shows S K → S → ℕ → Option (List ℕ) → Seen K → Seen K → Type 0
HearsLine {S} {K} shows s most heard before after = (keeper : K) × shows s keeper × (taken : List ℕ) × IsHeard most taken heard × Exchanges before after taken [] (Awaited keeper ∷ Heard heard ∷ [])

-- a device ended it while a line was heard, and the answerer is as it was; or its answer was cut short
abbrev pub BreaksAt : {S K : Type 0} → Answers S → Shows S K → ℕ → S → S → Seen K → Seen K → Type 0
BreaksAt {S} {K} answers shows most s t before after =
    ((s ≡ t) × IsUnheard shows s before after × (after.is_broken ≡ true))
    ⊎ ((heard : Option (List ℕ)) × (said : List ℕ) × (mid : Seen K) × HearsLine shows s most heard before mid × answers s heard said t × (keeper : K) × shows t keeper × IsToldShort mid after said keeper)

-- memory was refused to a line, and the answerer is as it was; or to the answer of a line that was heard
abbrev pub LacksAt : {S K : Type 0} → Shows S K → Lacks S → ℕ → S → S → Seen K → Seen K → Type 0
LacksAt shows lacks most s t before after = ((s ≡ t) × IsUnheard shows s before after) ⊎ ((heard : Option (List ℕ)) × HearsLine shows s most heard before after × lacks s heard t)

abbrev pub IsCut : {S K : Type 0} → Answers S → Shows S K → Lacks S → ℕ → S → S → Seen K → Seen K → TalkFault → Type 0
IsCut answers shows lacks most s t before after Device = BreaksAt answers shows most s t before after
IsCut answers shows lacks most s t before after OutOfMemory = LacksAt shows lacks most s t before after

-- how a line is heard, and its answer found: there was one; the host says no more; or a fault
abbrev pub Replies : {S K : Type 0} → Answers S → Shows S K → Lacks S → ℕ → S → S → Seen K → Seen K → Result (Option (Vec ℕ)) TalkFault → Type 0
Replies answers shows lacks most s t before after (Ok (Some text)) = (heard : Option (List ℕ)) × HearsLine shows s most heard before after × answers s heard text.items t
Replies answers shows lacks most s t before after (Ok None) = (s ≡ t) × IsHeardOut shows s before after
Replies answers shows lacks most s t before after (Err Device) = (s ≡ t) × IsUnheard shows s before after × (after.is_broken ≡ true)
Replies answers shows lacks most s t before after (Err OutOfMemory) = LacksAt shows lacks most s t before after

-- How a round ends: with a turn; with the end of what the host says; or with a fault.
abbrev pub Rounds : {S K : Type 0} → Answers S → Shows S K → Lacks S → ℕ → S → S → Seen K → Seen K → Result Bool TalkFault → Type 0
Rounds {S} {K} answers shows lacks most s t before after (Ok true) =
    (turn : Turn K) × shows s turn.awaiting × IsHeard most turn.taken turn.heard × answers s turn.heard turn.said t × shows t turn.keeper
    × Exchanges before after turn.taken turn.said (Awaited turn.awaiting ∷ Heard turn.heard ∷ Told turn.said turn.keeper ∷ [])
Rounds answers shows lacks most s t before after (Ok false) = (s ≡ t) × IsHeardOut shows s before after
Rounds answers shows lacks most s t before after (Err fault) = IsCut answers shows lacks most s t before after fault

-- How a talk ends behind so many turns: the host says no more; or the answerer is over; or there were as many as can be counted; or in
-- the midst of a turn, by a fault.
abbrev pub EndsSo : {S K : Type 0} → Answers S → Shows S K → Lacks S → (S → Bool) → ℕ → S → S → Seen K → Seen K → ℕ → Result TalkEnd TalkFault → Type 0
EndsSo answers shows lacks over most s t before after count (Ok Ended) = (s ≡ t) × (over s ≡ false) × IsHeardOut shows s before after
EndsSo answers shows lacks over most s t before after count (Ok Over) = (s ≡ t) × (over s ≡ true) × (before ≡ after)
EndsSo answers shows lacks over most s t before after count (Ok Spent) = (s ≡ t) × (before ≡ after) × (count ≡ 18446744073709551615)
EndsSo answers shows lacks over most s t before after count (Err fault) = (over s ≡ false) × IsCut answers shows lacks most s t before after fault

-- How a talk goes: some turns, and then its end.
abbrev pub TalksFor : {S K : Type 0} → Answers S → Shows S K → Lacks S → (S → Bool) → ℕ → S → S → Seen K → Seen K → Result TalkEnd TalkFault → Type 0
TalksFor {S} {K} answers shows lacks over most s t before after end =
    (turns : List (Turn K)) × (last : S) × (mid : Seen K)
    × Talks answers shows over most s last before mid turns
    × EndsSo answers shows lacks over most last t mid after (length turns) end
