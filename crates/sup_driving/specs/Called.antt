-- What a run's thread has called, seen and told.
use Rattle.std.specs.Prelude.{◌≡◌, ℕ, Bool, false, List, ◌++◌, length, map, flat_map, All, Option, None, Some}
use mathlib.Core.Option.{some}
use Rattle.sup_specs.specs.Values.{Bytes}
use Rattle.sup_specs.specs.declared.child.ChildSpec.{ChildSpec}
use Rattle.sup_local_sup.specs.declared.effect.Effect.{Effect}
use Rattle.sup_local_sup.specs.declared.effect.Effect.TheVariants.{Start}
use Rattle.sup_node_gate.specs.declared.entry.Entry.{Entry}
use Rattle.sup_node_gate.specs.declared.view.View.{View}
use Rattle.sup_node_gate.specs.Histories.{IsPrefix}
use Rattle.sup_node_gate.specs.Views.{calls_of}
use Rattle.sup_links.specs.declared.link_out.LinkOut.{LinkOut}
use Rattle.sup_links.specs.Ends.{has_ended}
use Rattle.sup_plan.specs.Calls.{asked}
use Rattle.sup_plan.specs.declared.plan.Command.{Command}
use Rattle.sup_posts.specs.Requests.{Unasked}
use Rattle.sup_posts.specs.Rounds.{ChildIncarnation, IsDone, IsRound, StoodByRound, TellsRunner}
use Rattle.sup_posts.specs.declared.thread_fault.ThreadFault.{ThreadFault}
use Rattle.sup_posts.specs.declared.thread_fault.ThreadFault.TheVariants.{HistoryFull, LinkClosed, OutOfMemory}

-- what is seen begins with what was seen
abbrev pub SeesMore : View → View → Type 0
SeesMore v v' = IsPrefix v.seen v'.seen

-- the pass's own calls since are exits, at this moment, of those of which the runner answered that they didn't start: of the runs of these effects,
-- which it was told, and of those that such exits begin
pub record TellsEffects (did : Effect → Bool → Type 0) (now : ℕ) (effects : List Effect) (v v' : View) : Type 0 where
  pub exits : List Entry
  pub are : TellsRunner did now effects exits
  pub own : calls_of v' ≡ calls_of v ++ map some exits
  pub shares : v'.shares ≡ v.shares

-- the runner was asked for this effect, and this is the run of which it answered that it didn't start, if there is one
abbrev pub AsksRunner : (Effect → Bool → Type 0) → Effect → Option ChildIncarnation → Type 0
AsksRunner did effect None = IsDone did effect
AsksRunner did effect (Some run) = (spec : ChildSpec) × (effect ≡ Start run.0 run.1 spec) × did effect false

-- the effects of several answers that were not asked for yet
abbrev pub effects_in : List Unasked → List Effect
effects_in = flat_map (λ r. r.effects)

-- they are of this node's answers
abbrev pub AreOf : Bytes → List Unasked → Type 0
AreOf name = All (λ r. r.node ≡ name)

-- the checkpoint was told of a node's command, and of its answer, with its effects, by the place
abbrev pub stood_by : {C : Type 0} → (C → Bytes → Command → ℕ → Type 0) → (C → Bytes → ℕ → List Effect → Type 0) → C → Bytes → Command → ℕ → List Effect → Type 0
stood_by before answered checkpoint node command place effects = before checkpoint node command place × answered checkpoint node place effects

-- the pass's own calls since are one command's and the exits behind it, and the checkpoint was told of the command, at this place, and of its answer
pub record MakesCommand (did : Effect → Bool → Type 0) (stood : Command → ℕ → List Effect → Type 0) (v : View) (command : Command) (place : ℕ) (v' : View) : Type 0 where
  pub round : List Entry
  pub is : IsRound did (asked command) round
  pub told : StoodByRound stood command place round
  pub own : calls_of v' ≡ calls_of v ++ map some round
  pub shares : v'.shares ≡ v.shares

-- why a thread makes no more calls: the history is full, and it has seen it whole; or memory was refused
abbrev pub StopsCalling : ℕ → View → ThreadFault → Type 0
StopsCalling bound v HistoryFull = length v.seen ≡ bound
StopsCalling bound v LinkClosed = ⊥
StopsCalling bound v OutOfMemory = Unit {0}

-- why it takes no more out of a link: the other end is gone, and no end mark came
abbrev pub StopsTaking : LinkOut → ThreadFault → Type 0
StopsTaking exit HistoryFull = ⊥
StopsTaking exit LinkClosed = has_ended exit ≡ false
StopsTaking exit OutOfMemory = ⊥
