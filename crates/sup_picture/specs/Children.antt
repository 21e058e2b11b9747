-- The children that a picture shows (this project): those that have bars, each once.
use Rattle.std.specs.Prelude.{List, [], ◌∷◌, ◌++◌, bytes_eq, if◌then◌else◌}
use Rattle.std.specs.List.{list_any}
use Rattle.sup_specs.specs.Values.{Bytes}
use Rattle.sup_picture.specs.declared.bars.Bar.{Bar}

abbrev pub with_child : List Bytes → Bytes → List Bytes
with_child children child = if list_any (bytes_eq child) children then children else children ++ child ∷ []

abbrev pub with_children : List Bytes → List Bar → List Bytes
with_children children [] = children
with_children children (bar ∷ later) = with_children (with_child children bar.child) later

abbrev pub children_of : List Bar → List Bytes
children_of bars = with_children [] bars
