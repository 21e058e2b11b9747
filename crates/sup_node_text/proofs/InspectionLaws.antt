-- What is told of an image, by the text of its context.
use Rattle.std.proofs.Common.{◌≡◌, ℕ, List}
use Rattle.std.specs.Prelude.{Result, Ok, Err, IfOk}
use Rattle.sup_placement.specs.Place.{Weigher}
use Rattle.sup_wire.specs.declared.image.Image.{Image}
use Rattle.sup_node_text.specs.Cuts.{IsCutText}
use Rattle.sup_node_text.specs.Shown.{tables_text}
use Rattle.sup_node_text.specs.Inspected.{stored_text, IsStillText}

pub still_told : {X E : Type 0} (view : X → List ℕ) (result : Result X E) (weigher : Weigher) (image : Image) (cut : List ℕ) → IsCutText image.state.context cut
    → IfOk result (λ x. view x ≡ stored_text image.node image.boot image.count (tables_text weigher image.state.rows) cut)
    → IfOk result (λ x. IsStillText weigher image (view x))
still_told view (Ok x) weigher image cut is told = record { cut = cut; is_cut = is; says = told }
still_told view (Err e) weigher image cut is told = told
