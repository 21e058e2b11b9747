-- A script's lines with their texts, and how drawing it ends.
use Rattle.std.proofs.Common.{◌≡◌, ℕ, ◌≤◌, List, length, drop, ap, sym, subst}
use Rattle.std.specs.Prelude.{Result, Ok, Err, IsErrAnd}
use mathlib.Core.Logic.{inr}
use Rattle.std.specs.Io.KnownBytes.{Appends}
use Rattle.sup_placement.specs.Place.{Weigher}
use Rattle.sup_replica.specs.Configs.{Config}
use Rattle.sup_jobs.specs.declared.fault.Fault.{Fault}
use Rattle.sup_jobs.specs.declared.fault.Fault.TheVariants.{Device}
use Rattle.sup_jobs.specs.Ends.{KnownBytes, Asks, EndsAt}
use Rattle.sup_jobs.specs.Tells.{IsCutShort}
use Rattle.sup_lines.specs.declared.line.Line.{Line}
use Rattle.sup_lines.specs.declared.line.Line.TheVariants as line
use Rattle.sup_lines.specs.Script.{ScriptText, numbered_lines, script_of}
use Rattle.sup_program.specs.PlayedLines.{BringsNoBytes}
use Rattle.sup_drawing.specs.Drawn.{DrawsScript}
use Rattle.sup_drawing.specs.Lines.{IsDry}
use Rattle.sup_supdraw.specs.DrawnScripts.{drawing, with_captions}

-- both say that no step brings bytes
pub dry : (l : Line) → BringsNoBytes l → IsDry l
dry (line.Step step) h = h
dry line.Settle h = h
dry (line.Show name) h = h
dry (line.Inspect name) h = h
dry (line.Image name) h = h
dry (line.Where name sought) h = h
dry (line.Message name k) h = h

module _ (weigher : Weigher) (config : Config) (input : List ℕ) (before written : KnownBytes) where
  module _ (script : ScriptText) (text : List ℕ) where
    -- a script that is read, and whose picture is written whole
    pub asks_all : script_of input ≡ Ok script → DrawsScript weigher config script.0 (drop 1 (numbered_lines input)) script.1 text → Appends before written text
        → Asks (drawing weigher config) (drawing weigher config).PrintsAll input before written
    asks_all read draws writes = (
      (script, drop 1 (numbered_lines input)),
      ap (with_captions (drop 1 (numbered_lines input))) read,
      record { text = text; draws = draws; writes = writes },
    )

    -- or in part
    pub asks_short : script_of input ≡ Ok script → DrawsScript weigher config script.0 (drop 1 (numbered_lines input)) script.1 text → IsCutShort before written text
        → Asks (drawing weigher config) (drawing weigher config).PrintsShort input before written
    asks_short read draws short = (
      (script, drop 1 (numbered_lines input)),
      ap (with_captions (drop 1 (numbered_lines input))) read,
      record { text = text; draws = draws; short = short },
    )

  -- the device failed, in the midst of the picture
  pub stops_short : {X : Type 0} (result : Result X Fault) (Q : Fault → Type 0) → length input ≤ 1048576 → IsErrAnd result Q → ((fault : Fault) → Q fault → fault ≡ Device)
      → Asks (drawing weigher config) (drawing weigher config).PrintsShort input before written → EndsAt (drawing weigher config) input before written result
  stops_short (Ok x) Q short err is asks = absurd err
  stops_short {X} (Err fault) Q short err is asks = subst (λ f. EndsAt {X = X} (drawing weigher config) input before written (Err f)) (sym (is fault err)) (inr (short, asks))
