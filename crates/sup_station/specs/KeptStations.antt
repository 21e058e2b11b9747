-- What a contract sees of a station, and what it answers to an act and becomes: a function of the station, the act, the moment and which call of
-- its keeper fails (the rules of steps and of durability). The keeper counts here as the bytes that it keeps.
use Rattle.std.specs.Prelude.{◌≡◌, ◌≢◌, ℕ, Bool, true, false, [], Option, Some, None, Result, Ok, Err, MatchResult}
use Rattle.std.specs.Option.{option_map}
use mathlib.Core.Logic.{◌⊎◌}
use Rattle.sup_specs.specs.Values.{Bytes}
use Rattle.sup_tables.specs.States.{State}
use Rattle.sup_placement.specs.Place.{Weigher}
use Rattle.sup_wire.specs.declared.image.Image.{Image}
use Rattle.sup_replica.specs.Configs.{Config}
use Rattle.sup_replica.specs.declared.event.Event.{Event}
use Rattle.sup_replica.specs.declared.event.Act.{Act}
use Rattle.sup_replica.specs.declared.event.Act.TheVariants.{Event as Of, Stop, Restart}
use Rattle.sup_replica.specs.declared.done.Done.{Done}
use Rattle.sup_replica.specs.declared.done.Reply.TheVariants.{Stopped, Boot}
use Rattle.sup_replica.specs.declared.refusal.Refusal.{Refusal}
use Rattle.sup_replica.specs.declared.refusal.Refusal.TheVariants.{Down, AlreadyUp, KeepFailed, BadMessage, OutOfMemory}
use Rattle.sup_replica.specs.Stations.{Station, Mail, StationMove}
use Rattle.sup_node.specs.Changes.{image_of}
use Rattle.sup_node.specs.Contents.{station_of}
use Rattle.sup_node.specs.NodeSteps.{ReadsMail, IsRefused, IsRestart, restart_of, fresh_station, stepped}
use Rattle.sup_node.specs.Texts.{IsDoneOf, IsImageText, IsImageReadAs}
use Rattle.sup_station.specs.declared.station.Station.{Station as Code}

pub record KeptStation : Type 0 where
  pub name : Bytes
  pub config : Config
  pub node : Option (Station State)  -- none while it is stopped
  pub kept : Bytes

abbrev pub keeper_of : {K W : Type 0} {g : _} {h : _} → Code K W g h → K
keeper_of s = s.keeper

-- the station, where this is what its keeper keeps
abbrev pub kept_station_of : {K W : Type 0} {g : _} {h : _} → (K → Bytes) → Code K W g h → KeptStation
kept_station_of kept s = record { name = s.name; config = s.config; node = option_map station_of s.node; kept = kept s.keeper }

-- a station that was just made, but for what is kept
abbrev pub opening : Bytes → Config → Bytes → KeptStation
opening name config kept = record { name = name; config = config; node = Some (fresh_station name config); kept = kept }

-- what a restart answers
abbrev pub restarted : Station State → Done → Done
restarted n done = record { reply = Boot n.node.supervisor.boot; effects = done.effects; out = None }

abbrev pub stop_done : Done
stop_done = record { reply = Stopped; effects = []; out = None }

-- the bytes are read as an image of the node of this name
abbrev pub IsOwnImage : Bytes → Bytes → Image → Type 0
IsOwnImage name bytes image = IsImageReadAs bytes (Some image) × (image.node ≡ name)

-- they are read as no image of it
abbrev pub IsOthers : Bytes → Option Image → Type 0
IsOthers name None = Unit {0}
IsOthers name (Some image) = image.node ≢ name

abbrev pub IsForeign : Bytes → Bytes → Type 0
IsForeign name bytes = (image : Option Image) × IsImageReadAs bytes image × IsOthers name image

-- why bytes give no image of the node
abbrev pub IsNoOwnImage : Bytes → Bytes → Refusal → Type 0
IsNoOwnImage name bytes r = ((r ≡ BadMessage) × IsForeign name bytes) ⊎ (r ≡ OutOfMemory)

-- the image of the node of this name that the bytes are read as, or why they give none
abbrev pub ReadsOwnImage : Bytes → Bytes → Result Image Refusal → Type 0
ReadsOwnImage name bytes result = MatchResult result (IsOwnImage name bytes) (IsNoOwnImage name bytes)

-- what is kept after a step: the new image's text where the step came to a save, which is where it's refused if that fails; else the old bytes
abbrev pub KeepsImage : Result (StationMove State) Refusal → Bytes → Bytes → Image → Type 0
KeepsImage (Ok move) old new image = new ≡ old
KeepsImage (Err r) old new image = IsImageText new image

-- a running node's answer to an event, the node after it, and what is kept
pub record RunningNodeAnswers (g : Weigher) (n : Station State) (kept : Bytes) (event : Event) (now : ℕ) (done : Done) (node : Option (Station State)) (new : Bytes) : Type 0 where
  pub mail : Option (Mail State)
  pub reads : ReadsMail event mail
  pub move : StationMove State
  pub moves : stepped g n event now mail true ≡ Ok move
  pub told : IsDoneOf move done
  pub becomes : node ≡ Some move.station
  pub keeps : KeepsImage (stepped g n event now mail false) kept new (image_of move.station.node)

-- a stopped node's answer to a restart, the node after it, and what is kept
pub record StoppedNodeRestarts (g : Weigher) (s : KeptStation) (done : Done) (node : Option (Station State)) (new : Bytes) : Type 0 where
  pub image : Image
  pub own : IsOwnImage s.name s.kept image
  pub station : Station State
  pub restarts : IsRestart g s.config image done.effects station
  pub told : done ≡ restarted station done
  pub becomes : node ≡ Some station
  pub keeps : IsImageText new (image_of station.node)

-- the answer to an act where it isn't refused, the node after it, and what is kept
abbrev pub CarriesOutAct : Weigher → KeptStation → Option (Station State) → Act → ℕ → Done → Option (Station State) → Bytes → Type 0
CarriesOutAct g s None (Of event) now done next new = ⊥
CarriesOutAct g s (Some n) (Of event) now done next new = RunningNodeAnswers g n s.kept event now done next new
CarriesOutAct g s None Stop now done next new = ⊥
CarriesOutAct g s (Some n) Stop now done next new = (done ≡ stop_done) × (next ≡ None) × (new ≡ s.kept)
CarriesOutAct g s None Restart now done next new = StoppedNodeRestarts g s done next new
CarriesOutAct g s (Some n) Restart now done next new = ⊥

-- the event's save is what fails
abbrev pub FailsToKeep : Weigher → Station State → Event → ℕ → Type 0
FailsToKeep g n event now = (mail : Option (Mail State)) × ReadsMail event mail × (stepped g n event now mail false ≡ Err KeepFailed)

-- why a restart is refused: its load or its save fails, memory, the image, or as the step says
abbrev pub RefusesRestart : Weigher → KeptStation → Refusal → Type 0
RefusesRestart g s r =
    (r ≡ KeepFailed) ⊎ ((r ≡ OutOfMemory) ⊎ (((r ≡ BadMessage) × IsForeign s.name s.kept) ⊎ ((image : Image) × IsOwnImage s.name s.kept image × (restart_of g s.config image true ≡ Err r))))

-- the act's save is what fails
abbrev pub FailsToSave : Weigher → KeptStation → Option (Station State) → Act → ℕ → Type 0
FailsToSave g s None (Of event) now = ⊥
FailsToSave g s (Some n) (Of event) now = FailsToKeep g n event now
FailsToSave g s None Stop now = ⊥
FailsToSave g s (Some n) Stop now = ⊥
FailsToSave g s None Restart now = (image : Image) × IsOwnImage s.name s.kept image × (restart_of g s.config image false ≡ Err KeepFailed)
FailsToSave g s (Some n) Restart now = ⊥

-- why an act is refused
abbrev pub RefusesAct : Weigher → KeptStation → Option (Station State) → Act → ℕ → Refusal → Type 0
RefusesAct g s None (Of event) now r = r ≡ Down
RefusesAct g s (Some n) (Of event) now r = IsRefused g n event now r ⊎ ((r ≡ KeepFailed) × FailsToKeep g n event now)
RefusesAct g s None Stop now r = r ≡ Down
RefusesAct g s (Some n) Stop now r = ⊥
RefusesAct g s None Restart now r = RefusesRestart g s r
RefusesAct g s (Some n) Restart now r = r ≡ AlreadyUp

-- the answer to an act, and what the station is after it; one that refuses is unchanged
abbrev pub AnswersAct : Weigher → KeptStation → Act → ℕ → Result Done Refusal → KeptStation → Type 0
AnswersAct g s act now (Ok done) t = (t.name ≡ s.name) × (t.config ≡ s.config) × CarriesOutAct g s s.node act now done t.node t.kept
AnswersAct g s act now (Err r) t = (t ≡ s) × RefusesAct g s s.node act now r

-- the act comes to its save: it isn't refused before, whatever its bytes or the kept ones say, and is refused where that save fails
abbrev pub ComesToSave : Weigher → KeptStation → Option (Station State) → Act → ℕ → Type 0
ComesToSave g s None (Of event) now = ⊥
ComesToSave g s (Some n) (Of event) now = (mail : Option (Mail State)) → ReadsMail event mail → stepped g n event now mail false ≡ Err KeepFailed
ComesToSave g s None Stop now = ⊥
ComesToSave g s (Some n) Stop now = ⊥
ComesToSave g s None Restart now =
    ((image : Image) → IsOwnImage s.name s.kept image → restart_of g s.config image false ≡ Err KeepFailed) × ¬ IsForeign s.name s.kept
ComesToSave g s (Some n) Restart now = ⊥

-- of a station, where this is what its keeper keeps: its save of the act is what fails; and the act comes to its save
abbrev pub FailsActBySave : {K W : Type 0} {g : _} {h : _} → (K → Bytes) → Weigher → Code K W g h → Act → ℕ → Type 0
FailsActBySave kept weigh s act now = FailsToSave weigh (kept_station_of kept s) (kept_station_of kept s).node act now

abbrev pub BringsActToSave : {K W : Type 0} {g : _} {h : _} → (K → Bytes) → Weigher → Code K W g h → Act → ℕ → Type 0
BringsActToSave kept weigh s act now = ComesToSave weigh (kept_station_of kept s) (kept_station_of kept s).node act now

-- its keeper is failing, or sound
abbrev pub IsFailingOrSound : {K W : Type 0} {g : _} {h : _} → (K → Bool) → (K → Bool) → Code K W g h → Type 0
IsFailingOrSound failing sound s = (failing (keeper_of s) ≡ true) ⊎ (sound (keeper_of s) ≡ true)

-- refused for a save, or for memory
abbrev pub IsUnsaved : Result Done Refusal → Type 0
IsUnsaved (Ok done) = ⊥
IsUnsaved (Err r) = (r ≡ KeepFailed) ⊎ (r ≡ OutOfMemory)
