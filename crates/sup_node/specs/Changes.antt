-- What an act makes ready, and what a node becomes once that is carried out (the rules of steps and of kept children).
use Rattle.std.specs.Prelude.{ℕ, ◌≡◌, ◌+◌, ◌≤◌, ◌<◌, Bool, true, false, List, [], Option, Some, None, Result, Ok, Err, IsOk}
use mathlib.Core.Logic.{◌⊎◌}
use Rattle.sup_specs.specs.declared.limits.TheConstants.{MAX}
use Rattle.sup_specs.specs.declared.child.Status.TheVariants.{Open}
use Rattle.sup_specs.specs.Values.{Bytes}
use Rattle.sup_causal.specs.declared.dot.Dot.{Dot}
use Rattle.sup_tables.specs.States.{State}
use Rattle.sup_tables.specs.Joined.{join_states, covers_state}
use Rattle.sup_tables.specs.OneOperation.{next_at}
use Rattle.sup_tables.specs.Operations.{Operation}
use Rattle.sup_tables.specs.Makers.{put_member}
use Rattle.sup_tables.specs.declared.planning.PlannedTables.{PlannedTables}
use Rattle.sup_tables.specs.Planned.{IsPlanFor}
use Rattle.sup_wire.specs.declared.image.Image.{Image}
use Rattle.sup_anti_entropy.specs.Buffers.{holds_more}
use Rattle.sup_placement.specs.Place.{Weigher}
use Rattle.sup_local_sup.specs.declared.effect.Effect.{Effect}
use Rattle.sup_local_sup.specs.declared.leaving.Leaving.{Leaving}
use Rattle.sup_local_sup.specs.declared.wanted.Wanted.{Wanted}
use Rattle.sup_local_sup.specs.Changing.{carried}
use Rattle.sup_local_sup.specs.Planning.{carried_out, restarted, leaving_after, leaving_effects}
use Rattle.sup_local_sup.specs.Supervising.{Supervisor}
use Rattle.sup_replica.specs.declared.done.Reply.{Reply}
use Rattle.sup_replica.specs.declared.done.Reply.TheVariants.{Boot}
use Rattle.sup_replica.specs.declared.refusal.Refusal.{Refusal}
use Rattle.sup_replica.specs.declared.refusal.Refusal.TheVariants.{OutOfMemory, CountSpent}
use Rattle.sup_replica.specs.Checks.{refused_if, then_do}
use Rattle.sup_replica.specs.Nodes.{Node, ActOutcome, wanted_at}
use Rattle.sup_replica.specs.ByTables.{by_tables}
use Rattle.sup_replica.specs.Acts.{absorbs}
use Rattle.sup_replica.specs.Steps.{passes_greatest, wanted}
use Rattle.sup_replica.specs.Stations.{Station, acknowledged}
use Rattle.sup_node.specs.declared.change.Change.{Change}
use Rattle.sup_node.specs.declared.change.Change.TheVariants.{Nothing, Begins, Learns, Acknowledges}
use Rattle.sup_node.specs.declared.change.Intake.{Intake}
use Rattle.sup_node.specs.declared.change.Intake.TheVariants.{Whole, Touched}
use Rattle.sup_node.specs.declared.change.Learned.{Learned}
use Rattle.sup_node.specs.declared.change.Ready.{Ready}
use Rattle.sup_local_sup.specs.declared.change.Change.{Change as ChangeOf}
use Rattle.sup_node.specs.Placed.{keeps_placed, changes_then}

-- a node's image
abbrev pub image_of : Node State → Image
image_of n = record { node = n.name; boot = n.supervisor.boot; count = n.count; state = n.known }

-- its image after one change more, once its tables are these
abbrev pub image_with : Node State → State → Image
image_with n known = record { node = n.name; boot = n.supervisor.boot; count = n.count + 1; state = known }

-- the newest own operation: this one, or the old one where there is none
abbrev pub newer : Option State → Option State → Option State
newer (Some own) old = Some own
newer None old = old

-- whether tables of the first state become the second's
abbrev pub ChangesTables : Intake → State → State → Type 0
ChangesTables (Whole tables plan) old new = tables ≡ new
ChangesTables (Touched tables plan) old new = IsPlanFor tables old new

-- the supervisor then
abbrev pub supervised : Supervisor → Intake → Supervisor
supervised s (Whole tables plan) = carried_out s plan
supervised s (Touched tables plan) = carried s plan

-- which is in the same boot
abbrev pub kept_by : Supervisor → Intake → Supervisor
kept_by s intake = record s { kept = (supervised s intake).kept; given = (supervised s intake).given; window = (supervised s intake).window }

-- a node that took in a delta
abbrev pub learned : Node State → Learned → Node State
learned n l = record n {
  known = join_states n.known l.delta;
  count = n.count + 1;
  supervisor = kept_by n.supervisor l.intake;
  newest = newer l.own n.newest;
}

abbrev pub changed : Node State → Change → Node State
changed n Nothing = n
changed n (Begins id now) = record n { supervisor = restarted n.supervisor id now }
changed n (Learns l) = learned n l
changed n (Acknowledges from number) = n

-- whether the image changes, and so is saved first
abbrev pub saves : Change → Bool
saves Nothing = false
saves (Begins id now) = false
saves (Learns l) = true
saves (Acknowledges from number) = false

-- the image that is saved, if it changes
abbrev pub image_after : Node State → Change → Option Image
image_after n Nothing = None
image_after n (Begins id now) = None
image_after n (Learns l) = Some (image_of (learned n l))
image_after n (Acknowledges from number) = None

-- what a change's tables ask of the node: that its own become those with the delta
abbrev pub ChangesTablesOf : Node State → Change → Type 0
ChangesTablesOf n Nothing = Unit {0}
ChangesTablesOf n (Begins id now) = Unit {0}
ChangesTablesOf n (Learns l) = ChangesTables l.intake n.known (join_states n.known l.delta)
ChangesTablesOf n (Acknowledges from number) = Unit {0}

-- the change is made for the node: it keeps what is placed on it then
abbrev pub IsMadeFor : Weigher → Node State → Change → Type 0
IsMadeFor g n change = ChangesTablesOf n change × (keeps_placed g (changed n change) ≡ true)

-- a station after a change: what it learned stands behind the held deltas, and an acknowledged number only rises
abbrev pub station_after : Station State → Change → Station State
station_after s Nothing = s
station_after s (Begins id now) = record s { node = changed s.node (Begins id now) }
station_after s (Learns l) = record s { node = learned s.node l; held = holds_more s.room s.held l.delta }
station_after s (Acknowledges from number) = acknowledged by_tables s from number

-- the change counts its delta as own, if it learns one
abbrev pub IsOwn : Node State → Change → Type 0
IsOwn n Nothing = Unit {0}
IsOwn n (Begins id now) = Unit {0}
IsOwn n (Learns l) = l.own ≡ Some l.delta
IsOwn n (Acknowledges from number) = ⊥

-- the change counts this delta of another's, if it learns one
abbrev pub IsOf : State → Node State → Change → Type 0
IsOf delta n Nothing = Unit {0}
IsOf delta n (Begins id now) = ⊥
IsOf delta n (Learns l) = (l.own ≡ None) × (l.delta ≡ delta)
IsOf delta n (Acknowledges from number) = ⊥

-- what is told and becomes, where no number passes the greatest
abbrev pub checked : Result (ActOutcome State) Refusal → Result (ActOutcome State) Refusal
checked step = then_do step (λ o. refused_if (passes_greatest o.node) CountSpent (Ok o))

abbrev pub outcome_of : Node State → Ready → ActOutcome State
outcome_of n p = record { done = record { reply = p.reply; effects = p.effects }; letter = None; node = changed n p.change; saves = saves p.change }

-- what is ready is the step's outcome, or it is refused as the step says; or for memory, and that only where the step says no refusal but of
-- numbers
abbrev pub ReadiesOutcome : Weigher → Result (ActOutcome State) Refusal → Node State → Result Ready Refusal → Type 0
ReadiesOutcome g step n (Ok p) = (checked step ≡ Ok (outcome_of n p)) × IsMadeFor g n p.change
ReadiesOutcome g step n (Err r) = (checked step ≡ Err r) ⊎ ((r ≡ OutOfMemory) × IsOk step)

-- a stopped node, by its image
abbrev pub stopped_node : ℕ → ℕ → Image → Node State
stopped_node intensity period i = record {
  name = i.node;
  known = i.state;
  up = false;
  count = i.count;
  supervisor = record { boot = i.boot; given = 0; kept = []; window = record { intensity = intensity; period = period; moments = [] } };
  newest = None;
}

-- a restart's node and effects, or why it is refused
abbrev pub RestartsAs : Result (ActOutcome State) Refusal → Result (Node State × List Effect) Refusal → Type 0
RestartsAs step (Ok r) = checked step ≡ Ok (record { done = record { reply = Boot r.0.supervisor.boot; effects = r.1 }; letter = None; node = r.0; saves = true })
RestartsAs step (Err r) = (checked step ≡ Err r) ⊎ ((r ≡ OutOfMemory) × IsOk step)

-- a node that takes in a delta, of its own operation or of others'
abbrev pub with_delta : Node State → Option State → State → Node State
with_delta n own delta = record n { known = join_states n.known delta; count = n.count + 1; newest = newer own n.newest }

-- what is wanted at a node with a delta
abbrev pub wanted_with : Weigher → Node State → State → List Wanted
wanted_with g n delta = wanted_at g n.name (join_states n.known delta).rows

-- how a delta is taken in: the tables become those with it; those that leave are let go, and then what is wanted with it is kept
pub record IsIntake (g : Weigher) (n : Node State) (leaving : Leaving) (delta : State) (intake : Intake) (effects : List Effect) : Type 0 where
  pub makes : ChangesTables intake n.known (join_states n.known delta)
  pub kept : kept_by n.supervisor intake ≡ leaving_after n.supervisor leaving (wanted_with g n delta)
  pub told : effects ≡ leaving_effects n.supervisor leaving (wanted_with g n delta)
  pub within : (kept_by n.supervisor intake).given ≤ MAX

-- why it isn't: for memory, or since an incarnation would pass the greatest number
abbrev pub IsNoIntake : Weigher → Node State → Leaving → State → Refusal → Type 0
IsNoIntake g n leaving delta r = (r ≡ OutOfMemory) ⊎ ((r ≡ CountSpent) × (MAX < (leaving_after n.supervisor leaving (wanted_with g n delta)).given))

-- a node takes in a delta, lets go those that leave, and then keeps what is wanted with it
abbrev pub learns : Weigher → Node State → Option State → Reply → Leaving → State → ActOutcome State
learns g n own reply leaving delta = record {
  done = record { reply = reply; effects = leaving_effects n.supervisor leaving (wanted by_tables g (with_delta n own delta)) };
  letter = None;
  node = record (with_delta n own delta) { supervisor = leaving_after n.supervisor leaving (wanted by_tables g (with_delta n own delta)) };
  saves = true;
}

-- what is ready is the outcome of a step, whatever children are weighed by, where the node keeps what is placed on it
abbrev pub ReadiesPlaced : (Weigher → Result (ActOutcome State) Refusal) → Node State → Result Ready Refusal → Type 0
ReadiesPlaced step n result = (g : Weigher) → keeps_placed g n ≡ true → ReadiesOutcome g (step g) n result

-- of each state that the plan makes of the old one
abbrev pub ForPlanned : PlannedTables → State → (State → Type 0) → Type 0
ForPlanned plan old P = (new : State) → IsPlanFor plan old new → P new

-- of each state that the tables become
abbrev pub ForChanged : Intake → State → (State → Type 0) → Type 0
ForChanged intake old P = (new : State) → ChangesTables intake old new → P new

-- a node whose tables became the new ones, with an own operation or none
abbrev pub taken_in : Node State → Intake → Option State → State → Node State
taken_in n intake own new = record n { known = new; count = n.count + 1; supervisor = kept_by n.supervisor intake; newest = newer own n.newest }

-- a node's own next dot
abbrev pub own_next : Node State → Dot
own_next n = next_at n.known n.name

-- what comes of a delta of others, by whether it is known
abbrev pub absorbed : Weigher → Node State → State → ActOutcome State
absorbed g n delta = absorbs by_tables g n delta None (covers_state n.known delta)

-- a node as a new member that is open
abbrev pub put_open_member : Node State → Bytes → Operation
put_open_member n label = put_member (own_next n) n.name (record { label = label; status = Open })

-- these are the changes under the ids in each state that the plan makes
abbrev pub AreChangesThen : Weigher → Node State → List Bytes → List Bytes → PlannedTables → List ChangeOf → Type 0
AreChangesThen g n hosts ids plan changes = ForPlanned plan n.known (λ new. changes ≡ changes_then g n hosts ids new)
