-- How a node begins, and why it doesn't.
use Rattle.std.specs.Prelude.{◌≡◌, ◌≢◌, ◌⊎◌, ℕ, Bool, true, false, List, [], Option, Some, None, Ok}
use Rattle.sup_specs.specs.Values.{Bytes}
use Rattle.sup_placement.specs.Place.{Weigher}
use Rattle.sup_wire.specs.declared.image.Image.{Image}
use Rattle.sup_wire.specs.Drafts.{SaysImage}
use Rattle.sup_wire.specs.Faults.{IsFault}
use Rattle.sup_inspecting.specs.Faults.{text_fault}
use Rattle.sup_replica.specs.Configs.{Config}
use Rattle.sup_replica.specs.declared.event.Act.TheVariants.{Restart}
use Rattle.sup_replica.specs.declared.done.Done.{Done}
use Rattle.sup_replica.specs.declared.done.Reply.TheVariants.{Boot}
use Rattle.sup_replica.specs.declared.refusal.Refusal.TheVariants.{BadMessage, KeepFailed}
use Rattle.sup_node.specs.Texts.{IsImageReadAs}
use Rattle.sup_station.specs.declared.station.Station.{Station as Code}
use Rattle.sup_station.specs.KeptStations.{KeptStation, keeper_of, kept_station_of, AnswersAct, FailsToSave, RefusesAct}
use Rattle.sup_station.specs.OpenedStations.{OpensStation, IsKeepRefusal}
use Rattle.sup_told.specs.Told.{told_text}
use Rattle.sup_answering.specs.declared.begin.BeginFault.{BeginFault}
use Rattle.sup_answering.specs.declared.begin.BeginFault.TheVariants.{BadImage, OthersImage, Refused, NoMemory}

-- a node that was stopped, of which these bytes are kept
abbrev pub stopped : Bytes → Config → Bytes → KeptStation
stopped name config kept = record { name = name; config = config; node = None; kept = kept }

-- the answer of a node that was just made
abbrev pub first_done : Done
first_done = record { reply = Boot 1; effects = []; out = None }

-- What the node becomes, and what it tells unasked: it was just made, and its image is saved; or it begins its next boot from what is kept.
abbrev pub BeginsNode : Weigher → Bool → Bytes → Config → Bytes → KeptStation → List ℕ → Type 0
BeginsNode weigher true name config kept after text = OpensStation name config after × (text ≡ told_text (Ok first_done))
BeginsNode weigher false name config kept after text = (done : Done) × AnswersAct weigher (stopped name config kept) Restart 0 (Ok done) after × (text ≡ told_text (Ok done))

-- the same of a station and of the keeper that it was given, where this is what a keeper keeps
abbrev pub BeginsStation : {K W : Type 0} {g : _} {h : _} → (K → Bytes) → Weigher → Bool → Bytes → Config → K → Code K W g h → List ℕ → Type 0
BeginsStation kept weigher is_new name config keeper station text = BeginsNode weigher is_new name config (kept keeper) (kept_station_of kept station) text

-- the bytes are read as an image of another node
abbrev pub IsOthersImage : Bytes → Bytes → Type 0
IsOthersImage name bytes = (image : Image) × IsImageReadAs bytes (Some image) × (image.node ≢ name)

-- Why a node doesn't begin, by what was kept. One that is new doesn't where its image can't be kept; another where what is kept is no image
-- of it, or its restart is refused for something else. Memory may be refused to either.
abbrev pub IsNoBegin : Weigher → Bool → Bytes → Config → Bytes → BeginFault → Type 0
IsNoBegin weigher true name config kept (BadImage fault) = ⊥
IsNoBegin weigher true name config kept OthersImage = ⊥
IsNoBegin weigher true name config kept (Refused refusal) = IsKeepRefusal refusal
IsNoBegin weigher true name config kept NoMemory = Unit {0}
IsNoBegin weigher false name config kept (BadImage fault) = IsFault SaysImage kept (text_fault fault)
IsNoBegin weigher false name config kept OthersImage = IsOthersImage name kept
IsNoBegin weigher false name config kept (Refused refusal) = (refusal ≢ BadMessage) × RefusesAct weigher (stopped name config kept) None Restart 0 refusal
IsNoBegin weigher false name config kept NoMemory = Unit {0}

-- a station, and what stands where its keeper keeps its image
pub record Standing : Type 0 where
  pub station : KeptStation
  pub found : Option Bytes

-- the station of a node that was stopped, over what was given for its keeper
abbrev pub stopped_over : Bytes → Config → Bytes → Option Bytes → Standing
stopped_over name config kept found = record { station = stopped name config kept; found = found }

-- a station, where this is what its keeper keeps, and what stands where it does
abbrev pub standing_of : {K W : Type 0} {g : _} {h : _} → (K → Bytes) → (K → Option Bytes) → Code K W g h → Standing
standing_of kept found station = record { station = kept_station_of kept station; found = found (keeper_of station) }

-- Memory was refused, and this is left: to find out why what is kept is no image of the node, which leaves all; or to the first answer of
-- a node that had begun, which leaves its station.
abbrev pub LacksFirst : Weigher → Bool → Standing → Standing → Type 0
LacksFirst weigher is_new old left =
    ((is_new ≡ false) × RefusesAct weigher old.station None Restart 0 BadMessage × (left ≡ old))
    ⊎ ((text : List ℕ) × BeginsNode weigher is_new old.station.name old.station.config old.station.kept left.station text)

-- What is left where a node doesn't begin: the station that was stopped, over what was kept, but where memory was refused.
abbrev pub LeavesStation : Weigher → Bool → Standing → BeginFault → Standing → Type 0
LeavesStation weigher is_new old (BadImage fault) left = left ≡ old
LeavesStation weigher is_new old OthersImage left = left ≡ old
LeavesStation weigher is_new old (Refused refusal) left = left ≡ old
LeavesStation weigher is_new old NoMemory left = LacksFirst weigher is_new old left

-- the image could not be kept or read
abbrev pub IsUnkept : BeginFault → Type 0
IsUnkept fault = fault ≡ Refused KeepFailed

-- a boot comes to its save, and that fails
abbrev pub FailsAtSave : Weigher → Bytes → Config → Bytes → Type 0
FailsAtSave weigher name config kept = FailsToSave weigher (stopped name config kept) None Restart 0

-- which fault bytes have as an image; or they are read as one; or memory was refused
abbrev pub IsImageFault : Bytes → BeginFault → Type 0
IsImageFault bytes (BadImage fault) = IsFault SaysImage bytes (text_fault fault)
IsImageFault bytes OthersImage = (image : Image) × IsImageReadAs bytes (Some image)
IsImageFault bytes (Refused refusal) = ⊥
IsImageFault bytes NoMemory = Unit {0}
