-- The arrows of a log (this project): one for each time that a message came, from the row in which it left, if known, and one for
-- each that was lost.
use Rattle.std.specs.Prelude.{List, Option, Some, None, if◌then◌else◌}
use Rattle.std.specs.List.{filter_map}
use Rattle.sup_picture.specs.declared.arrows.Arrow.{Arrow}
use Rattle.sup_picture.specs.declared.arrows.End.TheVariants as ends
use Rattle.sup_picture.specs.declared.log.Post.{Post}
use Rattle.sup_picture.specs.declared.log.Post.TheVariants.{Left, Came}
use Rattle.sup_picture.specs.Messages.{came_whole, left_row}

-- the arrow that ends with this: a message that came; or that left, and never came whole to its receiver
abbrev pub arrow_of : List Post → Post → Option Arrow
arrow_of posts (Came message at way row) = Some (record { message = message; left = left_row posts message; to = at; end = ends.Came row way })
arrow_of posts (Left message to row) =
    if came_whole posts message to then None else Some (record { message = message; left = Some row; to = to; end = ends.Lost })

abbrev pub arrows_of : List Post → List Arrow
arrows_of posts = filter_map (arrow_of posts) posts
