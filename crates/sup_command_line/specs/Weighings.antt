-- How members are weighed, by the word for it (this project).
use Rattle.std.specs.Prelude.{Option, Some, None, if◌then◌else◌, codes}
use Rattle.std.specs.Str.{bytes_eq}
use Rattle.clap.specs.Words.{Text}
use Rattle.sup_placement.specs.Place.{Weigher}
use Rattle.sup_placement.specs.Weights.{sha256_weight, flat_weight}
use Rattle.sup_command_line.specs.declared.request.Weighing.{Weighing}
use Rattle.sup_command_line.specs.declared.request.Weighing.TheVariants.{Sha256, Flat}

unfoldable pub weighing_of : Text → Option Weighing
weighing_of word =
    if bytes_eq word (codes "sha256") then Some Sha256 else
    (if bytes_eq word (codes "flat") then Some Flat else None)

-- the weights that are meant
abbrev pub weight_of : Weighing → Weigher
weight_of Sha256 = sha256_weight
weight_of Flat = flat_weight
