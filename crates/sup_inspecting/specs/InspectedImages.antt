-- The command inspect: what a stored image tells.
use Rattle.std.specs.Prelude.{◌<◌, ◌≤◌, ◌⊎◌, ℕ, List, length, Result, Ok, Err}
use Rattle.std.specs.Io.KnownBytes.{Appends, Keeps}
use Rattle.sup_placement.specs.Place.{Weigher}
use Rattle.sup_wire.specs.declared.image.Image.{Image}
use Rattle.sup_wire.specs.Drafts.{IsDraftOfImage, IsWholeImage, SaysImage}
use Rattle.sup_wire.specs.Faults.{TextSays, IsFault}
use Rattle.sup_node_text.specs.Inspected.{IsStillText}
use Rattle.sup_jobs.specs.declared.fault.Ended.{Ended}
use Rattle.sup_jobs.specs.declared.fault.Fault.{Fault}
use Rattle.sup_jobs.specs.declared.fault.Fault.TheVariants.{BadLine, BadInput, BadImage, Device, OutOfMemory}
use Rattle.sup_jobs.specs.Ends.{KnownBytes, EndsBy}
use Rattle.sup_jobs.specs.Tells.{IsCutShort}
use Rattle.sup_inspecting.specs.Faults.{text_fault}

-- the image that the input says, and what is told of it
pub record TellsImage (weigher : Weigher) (input : List ℕ) (said : List ℕ) : Type 0 where
  pub image : Image
  pub whole : IsWholeImage image
  pub says : TextSays IsDraftOfImage input image
  pub told : IsStillText weigher image said

-- why nothing is told of an input that isn't too long: it is no image; or want of memory
abbrev pub IsUntold : List ℕ → Fault → Type 0
IsUntold input (BadLine number) = ⊥
IsUntold input BadInput = ⊥
IsUntold input (BadImage fault) = IsFault SaysImage input (text_fault fault)
IsUntold input Device = ⊥
IsUntold input OutOfMemory = Unit {0}

-- the writer has got a front of what is told of the image, and not all
abbrev pub TellsFront : Weigher → List ℕ → KnownBytes → KnownBytes → Type 0
TellsFront weigher input before written = (said : List ℕ) × TellsImage weigher input said × IsCutShort before written said

-- The run was stopped: nothing was written, or a front of what is told of an image.
abbrev pub StopsAt : Weigher → List ℕ → KnownBytes → KnownBytes → Type 0
StopsAt weigher input before written = Keeps before written ⊎ ((length input ≤ 1048576) × TellsFront weigher input before written)

-- How an inspection of this input ends, and what the writer has got then: memory is wanted before anything is written.
abbrev pub InspectsTo : {X : Type 0} → Weigher → List ℕ → KnownBytes → KnownBytes → Result X Fault → Type 0
InspectsTo weigher input before written (Ok x) = (length input ≤ 1048576) × (said : List ℕ) × TellsImage weigher input said × Appends before written said
InspectsTo weigher input before written (Err (BadLine number)) = ⊥
InspectsTo weigher input before written (Err BadInput) = (1048576 < length input) × Keeps before written
InspectsTo weigher input before written (Err (BadImage fault)) = (length input ≤ 1048576) × IsFault SaysImage input (text_fault fault) × Keeps before written
InspectsTo weigher input before written (Err Device) = StopsAt weigher input before written
InspectsTo weigher input before written (Err OutOfMemory) = Keeps before written

-- The status tells how the run ended, and the error writer was told of that end.
abbrev pub InspectsImage : Weigher → KnownBytes → KnownBytes → KnownBytes → KnownBytes → KnownBytes → KnownBytes → Ended → Type 0
InspectsImage weigher input left before written errors_before errors_written ended =
    EndsBy (λ bytes before' written' end. InspectsTo weigher bytes before' written' end) input left before written errors_before errors_written ended
