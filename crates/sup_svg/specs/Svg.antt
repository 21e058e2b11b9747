-- The text of a picture (this project's picture format): a piece for each node, gap, bar, arrow and row.
use Rattle.std.specs.Prelude.{ℕ, List, ◌++◌, length, codes}
use Rattle.std.specs.List.{flat_map}
use Rattle.sup_picture.specs.declared.picture.Picture.{Picture}
use Rattle.sup_svg.specs.Grids.{grid_of}
use Rattle.sup_svg.specs.Pieces.{front_text, lane_text, gap_text, bar_text, arrow_text, row_text}

abbrev pub svg_text : Picture → List ℕ
svg_text picture =
    let nodes = picture.nodes.items in
    let children = picture.children.items in
    let grid = grid_of nodes children in
    let rows = length picture.rows.items in
    front_text grid nodes rows
    ++ flat_map (lane_text grid nodes rows) nodes
    ++ flat_map (gap_text grid nodes rows) picture.gaps.items
    ++ flat_map (bar_text grid nodes children rows) picture.bars.items
    ++ flat_map (arrow_text grid nodes) picture.arrows.items
    ++ flat_map (row_text grid nodes) picture.rows.items
    ++ codes "</svg>\n"
