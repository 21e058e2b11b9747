-- The pieces of a picture, one for each thing that it shows (this project's picture format).
use Rattle.std.specs.Prelude.{ℕ, ◌+◌, ◌-◌, min, nat_lt, if◌then◌else◌, List, [], ◌∷◌, ◌++◌, codes, decimal, unwrap_or, Option, Some, None}
use Rattle.std.specs.List.{flat_map}
use Rattle.sup_specs.specs.Values.{Bytes}
use Rattle.sup_picture.specs.declared.arrows.Arrow.{Arrow}
use Rattle.sup_picture.specs.declared.arrows.End.{End}
use Rattle.sup_picture.specs.declared.arrows.End.TheVariants.{Came, Lost}
use Rattle.sup_picture.specs.declared.bars.Bar.{Bar}
use Rattle.sup_picture.specs.declared.gaps.Gap.{Gap}
use Rattle.sup_picture.specs.declared.log.Mark.{Mark}
use Rattle.sup_picture.specs.declared.log.Mark.TheVariants.{Nowhere, Everywhere, Done, Refused as RefusedAt}
use Rattle.sup_picture.specs.declared.log.Message.{Message}
use Rattle.sup_picture.specs.declared.log.Row.{Row}
use Rattle.sup_picture.specs.declared.log.Way.{Way}
use Rattle.sup_picture.specs.declared.log.Way.TheVariants.{Learned, Known, Acked, Cut, Misdirected, Refused}
use Rattle.sup_svg.specs.declared.grid.Grid.{Grid}
use Rattle.sup_svg.specs.declared.style.TheConstants.{STYLE}
use Rattle.sup_svg.specs.Escapes.{escape_of, first_line}
use Rattle.sup_svg.specs.Grids.{bar_x, slot_of, width_of, x_of, y_of}

-- the parts of a piece, one after another
abbrev pub text : List (List ℕ) → List ℕ
text [] = []
text (part ∷ []) = part
text (part ∷ next ∷ parts) = part ++ text (next ∷ parts)

abbrev pub escaped : List ℕ → List ℕ
escaped bytes = flat_map escape_of bytes

-- the root of the text, with its size
unfoldable pub root_text : ℕ → ℕ → List ℕ
root_text width height =
    text (
    codes "<svg xmlns='http://www.w3.org/2000/svg' viewBox='0 0 " ∷ decimal width ∷ codes " " ∷ decimal height
    ∷ codes "' width='" ∷ decimal width ∷ codes "' height='" ∷ decimal height ∷ codes "'>\n" ∷ [])

unfoldable pub back_text : ℕ → ℕ → List ℕ
back_text width height = text (codes "<path class='back' d='M0 0H" ∷ decimal width ∷ codes "V" ∷ decimal height ∷ codes "H0z'/>\n" ∷ [])

-- the head, the style and the background
unfoldable pub front_text : Grid → List Bytes → ℕ → List ℕ
front_text grid nodes rows = root_text (width_of grid nodes) (y_of rows + 20) ++ STYLE.now ++ back_text (width_of grid nodes) (y_of rows + 20)

-- the line of a node, down to this row
unfoldable pub lane_text : Grid → List Bytes → ℕ → Bytes → List ℕ
lane_text grid nodes rows node =
    let x = decimal (x_of grid nodes node) in
    text (codes "<path class='lane' d='M" ∷ x ∷ codes " 48V" ∷ decimal (y_of rows) ∷ codes "'/>\n<text class='name' x='" ∷ x ∷ codes "' y='38'>" ∷ node ∷ codes "</text>\n" ∷ [])

-- an upright line in a style of this class
unfoldable pub upright_text : List ℕ → ℕ → ℕ → ℕ → List ℕ
upright_text class x top bottom =
    text (codes "<path class='" ∷ class ∷ codes "' d='M" ∷ decimal x ∷ codes " " ∷ decimal top ∷ codes "V" ∷ decimal bottom ∷ codes "'/>\n" ∷ [])

-- a gap in the line of a node, which lasts to this row if it doesn't end: the line is taken away, and another drawn there
unfoldable pub gap_text : Grid → List Bytes → ℕ → Gap → List ℕ
gap_text grid nodes rows gap =
    let x = x_of grid nodes gap.node in
    let top = y_of gap.down in
    let bottom = y_of (unwrap_or gap.up rows) in
    upright_text (codes "gap") x top bottom ++ upright_text (codes "down") x top bottom

-- a bar alone
unfoldable pub box_text : ℕ → ℕ → ℕ → ℕ → List ℕ
box_text x top height slot =
    text (
    codes "<svg x='" ∷ decimal x ∷ codes "' y='" ∷ decimal top ∷ codes "' width='12' height='" ∷ decimal height
    ∷ codes "'><path class='bar c" ∷ decimal slot ∷ codes "' d='M0 0H12V" ∷ decimal height ∷ codes "H0z'/>" ∷ [])

-- what stands along a bar: the child's id and its run
unfoldable pub run_text : Bar → List ℕ
run_text bar =
    text (
    codes "<text class='child' x='3' y='-3' transform='rotate(90)'>" ∷ escaped bar.child ∷ codes " " ∷ decimal bar.boot ∷ codes "." ∷ decimal bar.k
    ∷ codes "</text></svg>\n" ∷ [])

-- the bar of a child, which lasts to this row if it doesn't end
unfoldable pub bar_text : Grid → List Bytes → List Bytes → ℕ → Bar → List ℕ
bar_text grid nodes children rows bar =
    let slot = slot_of children bar.child in
    let top = y_of bar.began in
    box_text (bar_x (x_of grid nodes bar.node) slot) top (y_of (unwrap_or bar.ended rows) - top) slot ++ run_text bar

-- the class of an arrow's style
abbrev pub way_class : Way → List ℕ
way_class Learned = codes "learned"
way_class Known = codes "known"
way_class Acked = codes "acked"
way_class Cut = codes "cut"
way_class Misdirected = codes "misdirected"
way_class Refused = codes "came-refused"

-- where an arrow begins: where the message left, or half a row above its end where that isn't known
abbrev pub start_y : Option ℕ → ℕ → ℕ
start_y (Some left) row = y_of left
start_y None row = y_of row - 13

-- the line of an arrow, in a style of this class
unfoldable pub line_text : List ℕ → ℕ → ℕ → ℕ → ℕ → List ℕ
line_text class from top to bottom =
    text (
    codes "<path class='" ∷ class ∷ codes "' d='M" ∷ decimal from ∷ codes " " ∷ decimal top ∷ codes "L" ∷ decimal to ∷ codes " " ∷ decimal bottom ∷ codes "'>" ∷ [])

-- the name of a message, which ends its arrow
unfoldable pub title_text : Message → List ℕ
title_text message = text (codes "<title>" ∷ message.from ∷ codes " " ∷ decimal message.number ∷ codes "</title></path>\n" ∷ [])

unfoldable pub path_text : List ℕ → ℕ → ℕ → ℕ → ℕ → Message → List ℕ
path_text class from top to bottom message = line_text class from top to bottom ++ title_text message

-- the arrow of a message that came
abbrev pub came_text : Arrow → ℕ → ℕ → ℕ → Way → List ℕ
came_text arrow from to row way = path_text (way_class way) from (start_y arrow.left row) to (y_of row) arrow.message

-- where a lost message ends on its way: before the next node
abbrev pub lost_x : ℕ → ℕ → ℕ
lost_x from to = if nat_lt from to then from + 90 else from - 90

-- the arrow of a lost message
abbrev pub lost_text : Arrow → ℕ → ℕ → List ℕ
lost_text arrow from to = path_text (codes "lost") from (start_y arrow.left 0) (lost_x from to) (start_y arrow.left 0 + 20) arrow.message

-- an arrow from its message's sender to the node where it came or, of a lost one, towards its receiver
abbrev pub ended_text : Arrow → ℕ → ℕ → End → List ℕ
ended_text arrow from to (Came row way) = came_text arrow from to row way
ended_text arrow from to Lost = lost_text arrow from to

unfoldable pub arrow_text : Grid → List Bytes → Arrow → List ℕ
arrow_text grid nodes arrow = ended_text arrow (x_of grid nodes arrow.message.from) (x_of grid nodes arrow.to) arrow.end

-- the dot of a row
unfoldable pub circle_text : ℕ → Row → List ℕ → List ℕ
circle_text x row dot =
    text (
    codes "<circle class='" ∷ dot ∷ codes "' cx='" ∷ decimal x ∷ codes "' cy='" ∷ decimal (y_of row.row) ∷ codes "' r='5'><title>" ∷ escaped row.said
    ∷ codes "</title></circle>\n" ∷ [])

-- the first line of what was answered in a row
unfoldable pub label_text : ℕ → Row → List ℕ → List ℕ
label_text x row answer =
    text (
    codes "<text class='" ∷ answer ∷ codes "' x='" ∷ decimal x ∷ codes "' y='" ∷ decimal (y_of row.row - 5) ∷ codes "'>" ∷ escaped (first_line row.said) ∷ codes "</text>\n" ∷ [])

-- a dot at a node, beside the first line of what was answered
unfoldable pub dot_text : ℕ → Row → List ℕ → List ℕ → List ℕ
dot_text x row dot answer = circle_text x row dot ++ label_text (x + 10) row answer

-- the band of a row
unfoldable pub stripe_text : ℕ → Row → List ℕ
stripe_text width row =
    text (codes "<path class='all' d='M340 " ∷ decimal (y_of row.row - 8) ∷ codes "H" ∷ decimal width ∷ codes "v16H340z'><title>" ∷ escaped row.said ∷ codes "</title></path>\n" ∷ [])

-- the first line of what was answered, on a band
unfoldable pub told_text : ℕ → Row → List ℕ
told_text x row = text (codes "<text x='" ∷ decimal x ∷ codes "' y='" ∷ decimal (y_of row.row + 4) ∷ codes "'>" ∷ escaped (first_line row.said) ∷ codes "</text>\n" ∷ [])

-- a band over all nodes, with the first line of what was answered
unfoldable pub band_text : Grid → List Bytes → Row → List ℕ
band_text grid nodes row = stripe_text (width_of grid nodes) row ++ told_text (360 + min grid.bars 112) row

-- what a row is marked with
abbrev pub mark_text : Grid → List Bytes → Row → Mark → List ℕ
mark_text grid nodes row Nowhere = []
mark_text grid nodes row Everywhere = band_text grid nodes row
mark_text grid nodes row (Done node) = dot_text (x_of grid nodes node) row (codes "done") (codes "yes")
mark_text grid nodes row (RefusedAt node) = dot_text (x_of grid nodes node) row (codes "refused") (codes "no")

-- a row: its line in the margin, and its mark
unfoldable pub row_text : Grid → List Bytes → Row → List ℕ
row_text grid nodes row =
    text (
    codes "<path class='rule' d='M340 " ∷ decimal (y_of row.row) ∷ codes "H99999'/>\n<text class='line' x='8' y='" ∷ decimal (y_of row.row + 4) ∷ codes "'>" ∷ escaped row.line ∷ codes "</text>\n"
    ∷ mark_text grid nodes row row.mark ∷ [])
