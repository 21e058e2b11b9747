-- Where nodes, rows and bars stand in a picture (this project's picture format).
use Rattle.std.specs.Prelude.{ℕ, ◌+◌, ◌-◌, ◌*◌, ◌%◌, min, max, List, [], ◌∷◌, length, bytes_eq, position, unwrap_or}
use Rattle.sup_specs.specs.Values.{Bytes}
use Rattle.sup_svg.specs.declared.grid.Grid.{Grid}

abbrev pub longest_in : ℕ → List Bytes → ℕ
longest_in longest [] = longest
longest_in longest (node ∷ others) = longest_in (max longest (length node)) others

abbrev pub bars_of : List Bytes → ℕ
bars_of children = 14 * min (length children) 8

abbrev pub grid_of : List Bytes → List Bytes → Grid
grid_of nodes children = record { bars = bars_of children; node = bars_of children + 190 + 7 * min (longest_in 0 nodes) 64 }

-- the place of a name among others, or how many there are
abbrev pub place_of : List Bytes → Bytes → ℕ
place_of names name = unwrap_or (position (bytes_eq name) names) (length names)

-- the line of a node; one that isn't there has a place behind the others
abbrev pub x_of : Grid → List Bytes → Bytes → ℕ
x_of grid nodes node = 350 + min grid.bars 112 + min grid.node 750 * min (place_of nodes node) 16

-- the place of a child among eight
abbrev pub slot_of : List Bytes → Bytes → ℕ
slot_of children child = place_of children child % 8

-- where the bars of a place among eight stand, at the line of a node
abbrev pub bar_x : ℕ → ℕ → ℕ
bar_x x slot = x - (20 + 14 * min slot 7)

abbrev pub width_of : Grid → List Bytes → ℕ
width_of grid nodes = 500 + min grid.node 750 * min (length nodes) 16

abbrev pub y_of : ℕ → ℕ
y_of row = 70 + 26 * min row 1000000
