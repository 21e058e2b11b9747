-- A host: who says lines and is told answers, and what of that is known, in which order, and beside which keeper (this project).
use Rattle.std.specs.Prelude.{◌≡◌, ◌≤◌, ◌<◌, ℕ, Bool, true, List, [], ◌∷◌, ◌++◌, length, take, Option, None, Some, Result, Ok, Err, ⊤}
use Rattle.std.specs.Io.KnownBytes.{Consumes, Appends, IsAtEnd}
use Rattle.sup_talk.specs.Taking.{IsUnbroken}
use Rattle.sup_talk.specs.declared.line.Taken.{Taken}
use Rattle.sup_talk.specs.declared.line.Taken.TheVariants.{Line, TooLong, End}
use Rattle.sup_talk.specs.declared.line.LineFault.{LineFault}
use Rattle.sup_talk.specs.declared.line.LineFault.TheVariants.{Device, OutOfMemory}

-- what happens between an answerer and its host
pub data Event (K : Type 0) : Type 0 where
  Awaited : K → Event K  -- the host's next line was awaited, and the keeper as it was then
  Heard : Option (List ℕ) → Event K  -- a line of the host, or that there was one too long
  Silent : Event K  -- the host said no more
  Told : List ℕ → K → Event K  -- what the host was told, a text or a front of one, and the keeper as it was then

-- What is known of a host.
pub record Seen (K : Type 0) : Type 0 where
  pub unread : Option (List ℕ)  -- what it says and was not heard yet
  pub written : Option (List ℕ)  -- what it was told
  pub past : Option (List (Event K))  -- what it was heard to say and was told, one after the other
  pub is_broken : Bool  -- it can't be heard any more, or was told less than all of a text

-- What is known of streams.
pub record Flow : Type 0 where
  pub unread : Option (List ℕ)
  pub written : Option (List ℕ)
  pub is_broken : Bool

-- streams as a host: they note no past
abbrev pub seen_of : {K : Type 0} → Flow → Seen K
seen_of flow = record { unread = flow.unread; written = flow.written; past = None; is_broken = flow.is_broken }

-- a known past goes on with these events
abbrev pub Passes : {K : Type 0} → Option (List (Event K)) → Option (List (Event K)) → List (Event K) → Type 0
Passes None after events = ⊤
Passes (Some past) None events = ⊥
Passes (Some past) (Some longer) events = longer ≡ past ++ events

-- These bytes were taken from the host, these were told to it, and nothing else; and it was in the order of these events.
pub record Exchanges {K : Type 0} (before after : Seen K) (taken said : List ℕ) (events : List (Event K)) : Type 0 where
  pub consumes : Consumes before.unread after.unread taken
  pub appends : Appends before.written after.written said
  pub passes : Passes before.past after.past events

-- The host was awaited, and was shown the keeper. A line was heard, of so many bytes at most; or a longer one; or the host says no more, but
-- for a line that it didn't end. A fault took a front of a line.
abbrev pub Hears : {K : Type 0} → ℕ → Result Taken LineFault → Seen K → Seen K → K → Type 0
Hears most (Ok (Line line)) before after keeper = (length line.items ≤ most) × IsUnbroken line.items × Exchanges before after (line.items ++ (10 ∷ [])) [] (Awaited keeper ∷ Heard (Some line.items) ∷ [])
Hears most (Ok TooLong) before after keeper = (line : List ℕ) × (most < length line) × IsUnbroken line × Exchanges before after (line ++ (10 ∷ [])) [] (Awaited keeper ∷ Heard None ∷ [])
Hears most (Ok End) before after keeper = (rest : List ℕ) × IsUnbroken rest × Exchanges before after rest [] (Awaited keeper ∷ Silent ∷ []) × IsAtEnd after.unread
Hears most (Err Device) before after keeper = (front : List ℕ) × IsUnbroken front × Exchanges before after front [] (Awaited keeper ∷ []) × (after.is_broken ≡ true)
Hears most (Err OutOfMemory) before after keeper = (front : List ℕ) × IsUnbroken front × Exchanges before after front [] (Awaited keeper ∷ [])

-- The host was told a front of the text, and not all of it, and was shown the keeper.
abbrev pub IsToldShort : {K : Type 0} → Seen K → Seen K → List ℕ → K → Type 0
IsToldShort before after text keeper = (count : ℕ) × (count < length text) × Exchanges before after [] (take count text) (Told (take count text) keeper ∷ []) × (after.is_broken ≡ true)

-- The host was told the text, or where it failed less than that, and was shown the keeper.
abbrev pub IsTold : {K X E : Type 0} → Result X E → Seen K → Seen K → List ℕ → K → Type 0
IsTold (Ok x) before after text keeper = Exchanges before after [] text (Told text keeper ∷ [])
IsTold (Err fault) before after text keeper = IsToldShort before after text keeper
