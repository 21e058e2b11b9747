-- Why a node doesn't begin, and what it leaves.
use Rattle.std.proofs.Common.{◌≡◌, ◌≢◌, ◌<◌, ◌≤◌, ◌+◌, ◌∙◌, Bool, true, false, List, ℕ, Option, Some, None, Result, Ok, Err, IfOk, IfErr, ap, sym, subst, refl, inl, inr}
use Rattle.sup_specs.specs.Values.{Bytes}
use Rattle.sup_tables.specs.States.{State}
use Rattle.sup_placement.specs.Place.{Weigher}
use Rattle.sup_wire.specs.declared.image.Image.{Image}
use Rattle.sup_replica.specs.Configs.{Config}
use Rattle.sup_replica.specs.declared.done.Reply.TheVariants.{Boot}
use Rattle.sup_replica.specs.declared.refusal.Refusal.{Refusal}
use Rattle.sup_replica.specs.declared.refusal.Refusal.TheVariants.{BadMessage, CountSpent, KeepFailed}
use Rattle.sup_replica.specs.declared.event.Act.TheVariants.{Restart}
use Rattle.sup_replica.specs.Checks.{refused_if, then_do}
use Rattle.sup_replica.specs.Nodes.{ActOutcome}
use Rattle.sup_replica.specs.Steps.{passes_greatest}
use Rattle.sup_replica.specs.Acts.{booted, keeps}
use Rattle.sup_replica.specs.ByTables.{by_tables}
use Rattle.sup_replica.specs.Stations.{StationMove}
use Rattle.sup_node.specs.NodeSteps.{restart_of, stopped_by}
use Rattle.sup_node.specs.Texts.{IsImageReadAs}
use Rattle.sup_station.specs.KeptStations.{KeptStation, FailsToSave, IsForeign, IsOthers, RefusesAct, RefusesRestart}
use Rattle.sup_answering.specs.AnsweringNodes.{RisesWhere}
use Rattle.sup_answering.specs.BegunNodes.{BeginsNode, IsImageFault, IsNoBegin, IsOthersImage, IsUnkept, LeavesStation, Standing, stopped, stopped_over}
use Rattle.sup_answering.specs.declared.begin.BeginFault.{BeginFault}
use Rattle.sup_answering.specs.declared.begin.BeginFault.TheVariants.{BadImage, OthersImage, Refused, NoMemory}
use Rattle.sup_answering.proofs.CountLaws.{rises_where}

-- what a restart from this image comes to, before its last two checks
abbrev again : Weigher → Config → Image → ActOutcome State
again g c image = keeps by_tables g (booted (stopped_by c image).node) (Boot (image.boot + 1)) None

not_bad : (spent : Bool) (o : ActOutcome State) (next : ActOutcome State → StationMove State) → then_do (refused_if spent CountSpent (Ok o)) (λ x. Ok (next x)) ≢ Err BadMessage
not_bad true o next = λ e. cc
not_bad false o next = λ e. cc

-- no restart from an image of the node is refused as a bad message
restart_read : (g : Weigher) (c : Config) (image : Image) → restart_of g c image true ≢ Err BadMessage
restart_read g c image = not_bad (passes_greatest (again g c image).node) (again g c image) _

-- one that is refused so goes on from no image of the node
foreign_kept : (g : Weigher) (s : KeptStation) → RefusesRestart g s BadMessage → IsForeign s.name s.kept
foreign_kept g s (inl e) = absurd cc
foreign_kept g s (inr (inl e)) = absurd cc
foreign_kept g s (inr (inr (inl h))) = h.1
foreign_kept g s (inr (inr (inr h))) = absurd (restart_read g s.config h.0 h.2)

others_image : (name kept : Bytes) (found : Option Image) → IsImageReadAs kept found → IsOthers name found → (image : Image) → IsImageReadAs kept (Some image) → IsOthersImage name kept
others_image name kept None none other image reads = absurd (none image reads.0 reads.1)
others_image name kept (Some found) is other image reads = (found, is, other)

bad_image : (g : Weigher) (name : Bytes) (config : Config) (kept : Bytes) (fault : BeginFault) → IsForeign name kept → IsImageFault kept fault → IsNoBegin g false name config kept fault
bad_image g name config kept (BadImage fault) foreign is = is
bad_image g name config kept OthersImage foreign is = others_image name kept foreign.0 foreign.1 foreign.2 is.0 is.1
bad_image g name config kept (Refused refusal) foreign is = absurd is
bad_image g name config kept NoMemory foreign is = tt

-- why the node of a station doesn't begin whose restart is refused as a bad message
pub no_begin : (g : Weigher) (s : KeptStation) (bytes : Bytes) (fault : BeginFault) → RefusesRestart g s BadMessage → bytes ≡ s.kept → IsImageFault bytes fault → IsNoBegin g false s.name s.config s.kept fault
no_begin g s bytes fault refuses same is = bad_image g s.name s.config s.kept fault (foreign_kept g s refuses) (subst (λ (b : Bytes). IsImageFault b fault) same is)

-- a restart that is refused as a bad message, of a station as it was given
pub refused_bad : (g : Weigher) (s given : KeptStation) (refusal : Refusal) → s ≡ given → RefusesAct g s s.node Restart 0 refusal → refusal ≡ BadMessage → RefusesAct g given given.node Restart 0 BadMessage
refused_bad g s given refusal same refuses is =
    subst (λ (r : Refusal). RefusesAct g given given.node Restart 0 r) is (subst (λ (k : KeptStation). RefusesAct g k k.node Restart 0 refusal) same refuses)

-- a restart whose save fails, of a station as it was given
pub fails_given : (g : Weigher) (s given : KeptStation) → s ≡ given → FailsToSave g s s.node Restart 0 → FailsToSave g given given.node Restart 0
fails_given g s given same fails = subst (λ (k : KeptStation). FailsToSave g k k.node Restart 0) same fails

-- a fault of an image is no refusal
pub unrefused : (bytes : Bytes) (fault : BeginFault) (r : Refusal) → IsImageFault bytes fault → fault ≢ Refused r
unrefused bytes (BadImage fault) r is = λ e. cc
unrefused bytes OthersImage r is = λ e. cc
unrefused bytes (Refused refusal) r is = λ e. is
unrefused bytes NoMemory r is = λ e. cc

-- a refusal is no want of memory for the first answer
pub unlacking : (fault : BeginFault) (r : Refusal) → fault ≡ Refused r → fault ≢ NoMemory
unlacking fault r e = λ f. cc

no_refusal : (fault : BeginFault) (r : Refusal) → fault ≡ NoMemory → fault ≢ Refused r
no_refusal fault r e = λ f. cc

kept_none : (fault : BeginFault) (refusal : Refusal) → (refusal ≢ BadMessage → fault ≡ Refused refusal) → refusal ≡ KeepFailed → IsUnkept fault
kept_none fault refusal refused e = let other : refusal ≢ BadMessage = λ f. cc in refused other ∙ ap (λ (r : Refusal). Refused r) e

pub standing_same : (old new : Standing) → old.station ≡ new.station → old.found ≡ new.found → old ≡ new
standing_same old new station found = λ i. record { station = station i; found = found i }

module _ (g : Weigher) (is_new : Bool) (name : Bytes) (config : Config) (kept : Bytes) where
  abbrev old : Option Bytes → Standing
  old found = stopped_over name config kept found

  -- what is left is the old
  pub leaves_old : (found : Option Bytes) (fault : BeginFault) (left : Standing) → left ≡ old found → (fault ≡ NoMemory → (is_new ≡ false) × RefusesAct g (stopped name config kept) None Restart 0 BadMessage)
      → LeavesStation g is_new (old found) fault left
  leaves_old found (BadImage fault) left e why = e
  leaves_old found OthersImage left e why = e
  leaves_old found (Refused refusal) left e why = e
  leaves_old found NoMemory left e why = let w = why refl in inl (w.0, w.1, e)

  wants_memory : (is : Bool) (fault : BeginFault) → fault ≡ NoMemory → IsNoBegin g is name config kept fault
  wants_memory true fault e = subst (λ (f : BeginFault). IsNoBegin g true name config kept f) (sym e) tt
  wants_memory false fault e = subst (λ (f : BeginFault). IsNoBegin g false name config kept f) (sym e) tt

  -- memory was refused to the first answer
  pub unanswered : {B U : Type 0} (fault_of : U → BeginFault) (result : Result B U) → IfErr result (λ u. fault_of u ≡ NoMemory) → IfErr result (λ u. IsNoBegin g is_new name config kept (fault_of u))
  unanswered fault_of (Ok b) e = tt
  unanswered fault_of (Err u) e = wants_memory is_new (fault_of u) e

  -- a node begins as its station does
  pub begins_with : {B U S : Type 0} (station_of : B → S) (first_of : B → List ℕ) (shown : S → KeptStation) (station : S) (text : List ℕ) (result : Result B U)
      → BeginsNode g is_new name config kept (shown station) text → IfOk result (λ b. station_of b ≡ station) → IfOk result (λ b. first_of b ≡ text)
      → IfOk result (λ b. BeginsNode g is_new name config kept (shown (station_of b)) (first_of b))
  begins_with station_of first_of shown station text (Err u) begins same told = tt
  begins_with station_of first_of shown station text (Ok b) begins same told =
      subst (λ (t : List ℕ). BeginsNode g is_new name config kept (shown (station_of b)) t) (sym told)
      (subst (λ (s : KeptStation). BeginsNode g is_new name config kept s text) (ap shown (sym same)) begins)

  -- and its station is that of the node that had begun
  pub leaves_begun : {B U S : Type 0} (found : Option Bytes) (fault_of : U → BeginFault) (station_of : U → S) (shown : S → KeptStation) (found_of : S → Option Bytes) (station : S) (text : List ℕ)
      (result : Result B U)
      → BeginsNode g is_new name config kept (shown station) text → IfErr result (λ u. fault_of u ≡ NoMemory) → IfErr result (λ u. station_of u ≡ station)
      → IfErr result (λ u. LeavesStation g is_new (old found) (fault_of u) (record { station = shown (station_of u); found = found_of (station_of u) }))
  leaves_begun found fault_of station_of shown found_of station text (Ok b) begins e same = tt
  leaves_begun found fault_of station_of shown found_of station text (Err u) begins e same =
      subst (λ (f : BeginFault). LeavesStation g is_new (old found) f (record { station = shown (station_of u); found = found_of (station_of u) })) (sym e)
      (inr (text, subst (λ (s : KeptStation). BeginsNode g is_new name config kept s text) (ap shown (sym same)) begins))

-- nor is it counted
pub uncounted : {B U S : Type 0} (fault_of : U → BeginFault) (station_of : U → S) (count_of : S → ℕ) (before : ℕ) (station : S) (result : Result B U)
    → count_of station ≡ before → IfErr result (λ u. fault_of u ≡ NoMemory) → IfErr result (λ u. station_of u ≡ station)
    → IfErr result (λ u. RisesWhere (IsUnkept (fault_of u)) before (count_of (station_of u)))
uncounted fault_of station_of count_of before station (Ok b) same e at = tt
uncounted fault_of station_of count_of before station (Err u) same e at = ((λ f. absurd (no_refusal (fault_of u) KeepFailed e f)), (λ _. ap count_of at ∙ same))

-- a fault that is a refusal, or none that is counted, is counted as that refusal is
pub counted : (fault : BeginFault) (refusal : Refusal) (before after : ℕ) → ((r : Refusal) → fault ≡ Refused r → r ≡ refusal) → (refusal ≢ BadMessage → fault ≡ Refused refusal)
    → (refusal ≡ KeepFailed → before < after) → (before < after → refusal ≡ KeepFailed) → before ≤ after → after ≤ before + 1 → RisesWhere (IsUnkept fault) before after
counted fault refusal before after same refused rose told never_falls by_one =
    rises_where (IsUnkept fault) before after (λ is. rose (sym (same KeepFailed is))) (λ more. kept_none fault refusal refused (told more)) never_falls by_one

-- nor did it come to a save
pub unsaved : {B U : Type 0} (P R : Type 0) (fault_of : U → BeginFault) (result : Result B U) → IfErr result (λ u. fault_of u ≡ NoMemory) → IfErr result (λ u. R → IsUnkept (fault_of u) → P)
unsaved P R fault_of (Ok b) e = tt
unsaved P R fault_of (Err u) e = λ r f. absurd (no_refusal (fault_of u) KeepFailed e f)

-- what holds of a fault holds where more is asked
pub asked_first : {B U : Type 0} (P : U → Type 0) (Q : Type 0) (result : Result B U) → IfErr result P → IfErr result (λ u. Q → P u)
asked_first P Q (Ok b) e = tt
asked_first P Q (Err u) e = λ _. e
