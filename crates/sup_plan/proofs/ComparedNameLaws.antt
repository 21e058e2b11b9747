-- Names that are compared by their bytes.
use Rattle.std.specs.Prelude.{◌≡◌}
use Rattle.std.specs.Str.{bytes_eq}
use Rattle.std.proofs.lemmas.Map.Text.{is_eq-slice_cmp}
use Rattle.sup_specs.specs.Values.{Bytes}
use Rattle.sup_replica.specs.Nodes.{is_named}

pub named : (x y : Bytes) → is_named x y ≡ bytes_eq x y
named x y = is_eq-slice_cmp x y
