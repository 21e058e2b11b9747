-- Which calls of its gate a thread of a run makes, and what it tells the runner (the rule of starts that fail): what it has to do, and behind each of
-- these the exits of children of which the runner answered that they didn't start.
use Rattle.std.specs.Prelude.{◌≡◌, ℕ, suc, Bool, true, false, List, [], ◌∷◌, ◌++◌, map, flat_map, Ok, Err}
use Rattle.std.specs.List.{AllZip, AllByRecursion}
use mathlib.Core.Option.{some}
use Rattle.sup_specs.specs.Values.{Bytes}
use Rattle.sup_specs.specs.declared.child.ChildSpec.{ChildSpec}
use Rattle.sup_specs.specs.declared.child.ExitReason.TheVariants.{Failed}
use Rattle.sup_local_sup.specs.declared.effect.Effect.{Effect}
use Rattle.sup_local_sup.specs.declared.effect.Effect.TheVariants.{Stop, Start}
use Rattle.sup_local_sup.specs.declared.effect.Incarnation.{Incarnation}
use Rattle.sup_replica.specs.declared.event.Act.{Act}
use Rattle.sup_replica.specs.declared.event.Act.TheVariants.{Event as Of}
use Rattle.sup_replica.specs.declared.event.Event.TheVariants.{Exit, Deliver}
use Rattle.sup_node_gate.specs.declared.entry.Entry.{Entry}
use Rattle.sup_node_gate.specs.declared.view.View.{View}
use Rattle.sup_node_gate.specs.Histories.{StationAnswer, may_enter}
use Rattle.sup_node_gate.specs.Views.{calls_of}
use Rattle.sup_plan.specs.Calls.{Call, call_of, asked}
use Rattle.sup_plan.specs.declared.plan.Command.{Command}

-- a run of a child: its id and its incarnation
abbrev pub ChildIncarnation : Type 0
ChildIncarnation = Bytes × Incarnation

abbrev pub effects_of : StationAnswer → List Effect
effects_of (Ok done) = done.effects
effects_of (Err r) = []

-- the exit of a run that didn't start
abbrev pub failed : ChildIncarnation → Act
failed run = Of (Exit run.0 run.1 Failed)

-- What a node's runner did and answered is an argument, `did`: a relation of effects and answers that only its own call shows.

-- the runner was told this effect, and didn't answer that a start failed
abbrev pub IsDone : (Effect → Bool → Type 0) → Effect → Type 0
IsDone did (Stop id inc) = (answer : Bool) × did (Stop id inc) answer
IsDone did (Start id inc spec) = did (Start id inc spec) true

-- the entry is of this call, and has an answer that a history lists
pub record IsEntryOf (call : Call) (e : Entry) : Type 0 where
  pub is : call_of e ≡ call
  pub entered : may_enter e.answer ≡ true

-- of these effects the runner did all before a start that it answered to have failed, of which the entry is the exit, at this moment; these lie
-- behind it
pub record IsFailedStart (did : Effect → Bool → Type 0) (now : ℕ) (effects : List Effect) (exit : Entry) (behind : List Effect) : Type 0 where
  pub before : List Effect
  pub id : Bytes
  pub inc : Incarnation
  pub spec : ChildSpec
  pub effects_are : effects ≡ before ++ Start id inc spec ∷ behind
  pub done : AllByRecursion (IsDone did) before
  pub answered : did (Start id inc spec) false
  pub call : IsEntryOf (failed (id, inc), now) exit

-- the runner was told all these effects, and those of the entries' answers, which come last; the entries are the exits, at this moment, of just
-- those runs whose start it answered to have failed, in their order
abbrev pub TellsRunner : (Effect → Bool → Type 0) → ℕ → List Effect → List Entry → Type 0
TellsRunner did now effects [] = AllByRecursion (IsDone did) effects
TellsRunner did now effects (e ∷ es) = (behind : List Effect) × IsFailedStart did now effects e behind × TellsRunner did now (behind ++ effects_of e.answer) es

-- a call, and behind it the exits of runs that didn't start then, at the call's moment; the runner was told the effects of all their answers
abbrev pub IsRound : (Effect → Bool → Type 0) → Call → List Entry → Type 0
IsRound did call [] = ⊥
IsRound did call (e ∷ exits) = IsEntryOf call e × TellsRunner did call.1 (effects_of e.answer) exits

-- the pass's own calls since are these, in their order, each once and with such exits behind it; what it has of the gate stays
pub record MakesCalls (did : Effect → Bool → Type 0) (v : View) (calls : List Call) (v' : View) : Type 0 where
  pub rounds : List (List Entry)
  pub are : AllZip (IsRound did) calls rounds
  pub own : calls_of v' ≡ calls_of v ++ flat_map (map some) rounds
  pub shares : v'.shares ≡ v.shares

-- the delivery of a text. All are made at one moment
abbrev pub delivery : Bytes → Call
delivery text = (Of (Deliver text), 0)

-- What the checkpoint was told of a node is an argument too, `stood`: a relation of commands, their places and the effects of their answers.

-- the checkpoint was told of this command, at this place, and of what its own answer asks for: that of the round's first entry
abbrev pub StoodByRound : (Command → ℕ → List Effect → Type 0) → Command → ℕ → List Entry → Type 0
StoodByRound stood command place [] = ⊥
StoodByRound stood command place (e ∷ exits) = stood command place (effects_of e.answer)

-- the same of all these commands, each at its place, from this one on, and of the round that it made
abbrev pub StoodByFrom : (Command → ℕ → List Effect → Type 0) → ℕ → List Command → List (List Entry) → Type 0
StoodByFrom stood place [] [] = Unit {0}
StoodByFrom stood place (command ∷ commands) (round ∷ rounds) = StoodByRound stood command place round × StoodByFrom stood (suc place) commands rounds
StoodByFrom stood place _ _ = ⊥

-- and from the first place on
abbrev pub StoodByAll : (Command → ℕ → List Effect → Type 0) → List Command → List (List Entry) → Type 0
StoodByAll stood commands rounds = StoodByFrom stood 1 commands rounds

-- the pass's own calls since are these commands', and the checkpoint was told of each, with its answer
pub record MakesCommands (did : Effect → Bool → Type 0) (stood : Command → ℕ → List Effect → Type 0) (v : View) (commands : List Command) (v' : View) : Type 0 where
  pub made : MakesCalls did v (map asked commands) v'
  pub told : StoodByAll stood commands made.rounds
