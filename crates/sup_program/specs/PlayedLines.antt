-- What playing one line does: the code's world follows some line of the model's, and the writer has got its text, or a front of it.
use Rattle.std.specs.Prelude.{◌≡◌, ◌⊎◌, ℕ, false, List, Result, Ok, Err}
use Rattle.std.specs.Io.KnownBytes.{Appends, Keeps}
use Rattle.sup_specs.specs.Values.{Bytes as Name}
use Rattle.sup_placement.specs.Place.{Weigher}
use Rattle.sup_jobs.specs.Ends.{KnownBytes}
use Rattle.sup_jobs.specs.Tells.{IsCutShort}
use Rattle.sup_jobs.specs.declared.fault.Fault.{Fault}
use Rattle.sup_jobs.specs.declared.fault.Fault.TheVariants.{BadLine, BadInput, BadImage, Device, OutOfMemory}
use Rattle.sup_model.specs.Worlds.{ModelWorld}
use Rattle.sup_world.specs.CarriedSteps.{has_bytes}
use Rattle.sup_world.specs.SeenNodes.{SeenNode}
use Rattle.sup_lines.specs.declared.line.Line.{Line}
use Rattle.sup_lines.specs.declared.line.Line.TheVariants as line
use Rattle.sup_program.specs.Prints.{Scene, PrintsLine}

-- a line's step is no act that brings bytes: these come by deliveries, and raw
abbrev pub BringsNoBytes : Line → Type 0
BringsNoBytes (line.Step step) = has_bytes step ≡ false
BringsNoBytes line.Settle = Unit {0}
BringsNoBytes (line.Show name) = Unit {0}
BringsNoBytes (line.Inspect name) = Unit {0}
BringsNoBytes (line.Image name) = Unit {0}
BringsNoBytes (line.Where name sought) = Unit {0}
BringsNoBytes (line.Message name k) = Unit {0}

-- what the line prints, and the model world that the code's then stands for
pub record SaysLine (weigher : Weigher) (peers : List Name) (s : Scene) (line : Line) (new : List SeenNode) : Type 0 where
  pub said : List ℕ
  pub after : ModelWorld
  pub prints : PrintsLine weigher peers s line said (record { model = after; sites = new })

-- this text is what the line prints; where there is no memory for a text, the line was played, or nothing changed
abbrev pub MaySpeak : {X E : Type 0} → (X → List ℕ) → Weigher → List Name → Scene → Line → List SeenNode → Result X E → Type 0
MaySpeak view weigher peers s line new (Ok x) = (speaks : SaysLine weigher peers s line new) × (view x ≡ speaks.said)
MaySpeak view weigher peers s line new (Err e) = SaysLine weigher peers s line new ⊎ (new ≡ s.sites)

-- the writer has got all of that; or, where it failed, a front of it and not all; or, where memory was refused, nothing
abbrev pub PlaysLine : {X : Type 0} → Weigher → List Name → Scene → Line → List SeenNode → KnownBytes → KnownBytes → Result X Fault → Type 0
PlaysLine weigher peers s line new before written (Ok x) = (speaks : SaysLine weigher peers s line new) × Appends before written speaks.said
PlaysLine weigher peers s line new before written (Err (BadLine number)) = ⊥
PlaysLine weigher peers s line new before written (Err BadInput) = ⊥
PlaysLine weigher peers s line new before written (Err (BadImage fault)) = ⊥
PlaysLine weigher peers s line new before written (Err Device) = (speaks : SaysLine weigher peers s line new) × IsCutShort before written speaks.said
PlaysLine weigher peers s line new before written (Err OutOfMemory) = (SaysLine weigher peers s line new ⊎ (new ≡ s.sites)) × Keeps before written
