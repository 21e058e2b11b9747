-- Settling as a list of the world's own steps (the rule of settling): which they are, and what is told of their answers.
use Rattle.std.specs.Prelude.{◌≡◌, ◌≢◌, ◌+◌, ℕ, Bool, false, List, [], ◌∷◌, ◌++◌, length, filter, map, is_some, Option, Some, None, Result, Ok, Err, IsSorted, IsPermutation}
use Rattle.std.specs.List.{flat_map}
use mathlib.Core.Logic.{◌⊎◌}
use Rattle.sup_specs.specs.Values.{Bytes, text_cmp}
use Rattle.sup_placement.specs.Place.{Weigher}
use Rattle.sup_local_sup.specs.declared.effect.Effect.{Effect}
use Rattle.sup_replica.specs.declared.refusal.Refusal.{Refusal}
use Rattle.sup_replica.specs.declared.refusal.Refusal.TheVariants.{OutOfMemory, UpToDate}
use Rattle.sup_model.specs.declared.step.Step.{Step}
use Rattle.sup_world.specs.declared.answer.Answer.{Answer}
use Rattle.sup_world.specs.declared.settled.Settled.{Settled}
use Rattle.sup_world.specs.declared.tally.Tally.{Tally}
use Rattle.sup_world.specs.Exchanges.{running}
use Rattle.sup_world.specs.Pairs.{ship_of, arrival}
use Rattle.sup_world.specs.ReachedWorlds.{LeadsOn}
use Rattle.sup_world.specs.Runs.{StepGoes, RanSteps}
use Rattle.sup_world.specs.SeenNodes.{SeenNode}
use Rattle.sup_world.specs.SettledSites.{pairs_of}

abbrev pub Answered : Type 0
Answered = Result Answer Refusal

-- a message left with this answer
abbrev pub sends : Answered → Bool
sends (Ok answer) = is_some answer.number
sends (Err refusal) = false

abbrev pub messages_in : List Answered → ℕ
messages_in answers = length (filter sends answers)

abbrev pub effects_with : Answered → List (Bytes × Effect)
effects_with (Ok answer) = map (λ effect. (answer.at, effect)) answer.done.effects
effects_with (Err refusal) = []

abbrev pub effects_in : List Answered → List (Bytes × Effect)
effects_in answers = flat_map effects_with answers

-- the message with this number, if one left, comes at once
abbrev pub IsToldOn : Bytes → Option ℕ → List Step → List Answered → Type 0
IsToldOn b None steps answers = (steps ≡ []) × (answers ≡ [])
IsToldOn b (Some n) steps answers = (told : Answer) × (steps ≡ arrival b n ∷ []) × (answers ≡ Ok told ∷ [])

-- the same, and so does the one that leaves with its answer
abbrev pub IsBrought : Bytes → Bytes → Option ℕ → List Step → List Answered → Type 0
IsBrought a b None steps answers = (steps ≡ []) × (answers ≡ [])
IsBrought a b (Some k) steps answers =
    (came : Answer) × (more : List Step) × (rest : List Answered)
    × (steps ≡ arrival a k ∷ more) × (answers ≡ Ok came ∷ rest) × IsToldOn b came.number more rest

-- the steps of an exchange: a ship that is answered with up to date; or one whose message comes at once, and then its acknowledgement
abbrev pub IsExchange : Bytes → Bytes → List Step → List Answered → Type 0
IsExchange a b steps answers =
    ((steps ≡ ship_of a b ∷ []) × (answers ≡ Err UpToDate ∷ []))
    ⊎ ((shipped : Answer) × (more : List Step) × (rest : List Answered)
    × (steps ≡ ship_of a b ∷ more) × (answers ≡ Ok shipped ∷ rest) × IsBrought a b shipped.number more rest)

-- those of each pair, one after another
abbrev pub AreExchanges : List (Bytes × Bytes) → List Step → List Answered → Type 0
AreExchanges [] steps answers = (steps ≡ []) × (answers ≡ [])
AreExchanges (pair ∷ pairs) steps answers =
    (here : List Step) × (more : List Step) × (told : List Answered) × (rest : List Answered)
    × IsExchange pair.0 pair.1 here told × AreExchanges pairs more rest × (steps ≡ here ++ more) × (answers ≡ told ++ rest)

-- a step is refused so, or there is no memory to note its answer
abbrev pub StepEnds : Answered → Refusal → Type 0
StepEnds (Ok answer) r = r ≡ OutOfMemory
StepEnds (Err q) r = r ≡ q

-- the steps of an exchange that ends early: at its ship, at the delivery, or at that of the acknowledgement
pub record EndsAtShip (a b : Bytes) (steps : List Step) (answers : List Answered) (r : Refusal) : Type 0 where
  pub last : Answered
  pub steps_are : steps ≡ ship_of a b ∷ []
  pub answers_are : answers ≡ last ∷ []
  pub ends : StepEnds last r
  pub not_passed : r ≢ UpToDate

pub record EndsAtArrival (a b : Bytes) (steps : List Step) (answers : List Answered) (r : Refusal) : Type 0 where
  pub shipped : Answer
  pub k : ℕ
  pub number : shipped.number ≡ Some k
  pub last : Answered
  pub steps_are : steps ≡ ship_of a b ∷ arrival a k ∷ []
  pub answers_are : answers ≡ Ok shipped ∷ last ∷ []
  pub ends : StepEnds last r

pub record EndsAtLast (a b : Bytes) (steps : List Step) (answers : List Answered) (r : Refusal) : Type 0 where
  pub shipped : Answer
  pub k : ℕ
  pub number : shipped.number ≡ Some k
  pub came : Answer
  pub n : ℕ
  pub acknowledges : came.number ≡ Some n
  pub last : Answered
  pub steps_are : steps ≡ ship_of a b ∷ arrival a k ∷ arrival b n ∷ []
  pub answers_are : answers ≡ Ok shipped ∷ Ok came ∷ last ∷ []
  pub ends : StepEnds last r

abbrev pub EndsIn : Bytes → Bytes → List Step → List Answered → Refusal → Type 0
EndsIn a b steps answers r = EndsAtShip a b steps answers r ⊎ (EndsAtArrival a b steps answers r ⊎ EndsAtLast a b steps answers r)

-- the first of these pairs exchanged, and the next one ended early
abbrev pub EndsAmong : List (Bytes × Bytes) → List Step → List Answered → Refusal → Type 0
EndsAmong [] steps answers r = ⊥
EndsAmong (pair ∷ pairs) steps answers r =
    EndsIn pair.0 pair.1 steps answers r
    ⊎ ((here : List Step) × (more : List Step) × (told : List Answered) × (rest : List Answered)
    × IsExchange pair.0 pair.1 here told × EndsAmong pairs more rest r × (steps ≡ here ++ more) × (answers ≡ told ++ rest))

-- these answers were noted
pub record NotesAll (answers : List Answered) (old new : Tally) : Type 0 where
  pub messages : length new.sent.items ≡ length old.sent.items + messages_in answers
  pub effects : new.effects.items ≡ old.effects.items ++ effects_in answers

-- an answer was noted, and its message's number handed on; or there was no memory for that; or it is a refusal, and nothing was noted
abbrev pub IsNotedAs : Answered → Tally → Result (Option ℕ) Refusal → Tally → Type 0
IsNotedAs (Ok answer) old (Ok number) new = (number ≡ answer.number) × NotesAll (Ok answer ∷ []) old new
IsNotedAs (Ok answer) old (Err r) new = r ≡ OutOfMemory
IsNotedAs (Err q) old (Ok number) new = ⊥
IsNotedAs (Err q) old (Err r) new = (r ≡ q) × (new ≡ old)

-- the same of a ship, but that one which is up to date is passed over
abbrev pub IsShipNotedAs : Answered → Tally → Result (Option ℕ) Refusal → Tally → Type 0
IsShipNotedAs (Ok answer) old (Ok number) new = (number ≡ answer.number) × NotesAll (Ok answer ∷ []) old new
IsShipNotedAs (Ok answer) old (Err r) new = r ≡ OutOfMemory
IsShipNotedAs (Err q) old (Ok number) new = (q ≡ UpToDate) × (number ≡ None) × (new ≡ old)
IsShipNotedAs (Err q) old (Err r) new = (r ≡ q) × (r ≢ UpToDate)

-- one step was made and noted
pub record MakesOne (g : Weigher) (sites : List SeenNode) (step : Step) (old : Tally) (result : Result (Option ℕ) Refusal) (new : Tally) (after : List SeenNode) : Type 0 where
  pub answer : Answered
  pub goes : StepGoes g sites step answer after
  pub noted : IsNotedAs answer old result new

pub record ShipsOne (g : Weigher) (sites : List SeenNode) (a b : Bytes) (old : Tally) (result : Result (Option ℕ) Refusal) (new : Tally) (after : List SeenNode) : Type 0 where
  pub answer : Answered
  pub goes : StepGoes g sites (ship_of a b) answer after
  pub noted : IsShipNotedAs answer old result new

-- these pairs exchanged, and the answers were noted; or they ended early
abbrev pub PairsCome : {X : Type 0} → List (Bytes × Bytes) → List Step → List Answered → Tally → Result X Refusal → Tally → Type 0
PairsCome pairs steps answers old (Ok x) new = AreExchanges pairs steps answers × NotesAll answers old new
PairsCome pairs steps answers old (Err r) new = EndsAmong pairs steps answers r

pub record MakesPairs {X : Type 0} (g : Weigher) (sites : List SeenNode) (pairs : List (Bytes × Bytes)) (old : Tally) (result : Result X Refusal) (new : Tally) (after : List SeenNode) : Type 0 where
  pub steps : List Step
  pub answers : List Answered
  pub ran : RanSteps g sites steps answers after
  pub come : PairsCome pairs steps answers old result new

-- the names of the nodes that run, in their order
pub record AreRunning (sites : List SeenNode) (names : List Bytes) : Type 0 where
  pub sorted : IsSorted text_cmp names
  pub all : IsPermutation (running sites) names

-- what is told of these steps: how many messages left, and each effect with its node; or why they ended early
abbrev pub IsToldBy : List SeenNode → List Step → List Answered → Result Settled Refusal → Type 0
IsToldBy sites steps answers (Ok settled) =
    (names : List Bytes) × AreRunning sites names × AreExchanges (pairs_of names) steps answers
    × (settled.messages ≡ messages_in answers) × (settled.effects ≡ effects_in answers)
IsToldBy sites steps answers (Err r) =
    ((r ≡ OutOfMemory) × (steps ≡ []) × (answers ≡ []))
    ⊎ ((names : List Bytes) × AreRunning sites names × EndsAmong (pairs_of names) steps answers r)

-- settling is these steps of the world, answered so; they lead on as any steps do
pub record SettlesBy (g : Weigher) (sites : List SeenNode) (result : Result Settled Refusal) (after : List SeenNode) : Type 0 where
  pub steps : List Step
  pub answers : List Answered
  pub ran : RanSteps g sites steps answers after
  pub told : IsToldBy sites steps answers result
  pub leads : LeadsOn g sites steps answers after
