-- Where a name leads (the rules of names and of placement): to its child, and to the member that the child is placed on.
use Rattle.std.specs.Prelude.{List, Option, Some, None, if◌then◌else◌}
use Rattle.sup_specs.specs.Values.{Bytes}
use Rattle.sup_tables.specs.declared.row.Row.{Row}
use Rattle.sup_tables.specs.Rows.{children, names, target_of}
use Rattle.sup_tables.specs.Readers.{winner, is_present, eligible}
use Rattle.sup_placement.specs.Place.{Weigher, place}

pub data Where : Type 0 where
  unknown : Where  -- no such name
  gone : Bytes → Where  -- its child isn't there
  unplaced : Bytes → Where  -- no member is open
  on : Bytes → Bytes → Where  -- the child, and the member

abbrev pub where_placed : Bytes → Option Bytes → Where
where_placed id None = unplaced id
where_placed id (Some member) = on id member

abbrev pub where_child : Weigher → List Row → Bytes → Where
where_child weigher rows id = if is_present rows children id then where_placed id (place weigher (eligible rows) id) else gone id

abbrev pub where_of : Weigher → List Row → Option Row → Where
where_of weigher rows None = unknown
where_of weigher rows (Some r) = where_child weigher rows (target_of r.entry)

abbrev pub where_is : Weigher → List Row → Bytes → Where
where_is weigher rows name = where_of weigher rows (winner rows names name)
