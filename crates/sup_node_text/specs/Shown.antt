-- What is shown of a node (the rule of output): its boot; of each table each key's winner, by key, and behind it the key's losers, in dot order; then
-- what it keeps running, in the order of its starts. Of a stopped node no more than that it is down.
use Rattle.std.specs.Prelude.{ℕ, List, [], ◌∷◌, codes, decimal, Option, Some, None}
use Rattle.std.specs.Borrow.{Bor}
use Rattle.std.specs.List.{flat_map}
use Rattle.sup_specs.specs.Values.{Bytes}
use Rattle.sup_tables.specs.declared.row.Row.{Row}
use Rattle.sup_tables.specs.Rows.{Table, members, children, names, key_of, info_of, spec_of, target_of}
use Rattle.sup_tables.specs.Readers.{winners, losers, eligible}
use Rattle.sup_tables.specs.States.{State}
use Rattle.sup_placement.specs.Place.{Weigher, place}
use Rattle.sup_local_sup.specs.Keeping.{KeptChild}
use Rattle.sup_replica.specs.Stations.{Station}
use Rattle.sup_node.specs.declared.node.Node.{Node}
use Rattle.sup_node.specs.Contents.{station_of}
use Rattle.sup_node.specs.Whereabouts.{where_child, where_is}
use Rattle.sup_text.specs.Words.{text}
use Rattle.sup_node_text.specs.Lines.{table_word, lead_text, member_line, child_line, name_line, loser_line, kept_line}

-- the lines of a key's losers
abbrev pub loser_lines : List Row → Table → Bytes → List ℕ
loser_lines rows table key = flat_map (λ r. loser_line (table_word table) key r.dot) (losers rows table key)

-- a winner's line, and behind it those of its losers
abbrev pub with_losers : List Row → Table → (Row → List ℕ) → Row → List ℕ
with_losers rows table line r = text (line r ∷ loser_lines rows table (key_of r.entry) ∷ [])

abbrev pub member_lines : List Row → Row → List ℕ
member_lines rows = with_losers rows members (λ r. member_line (key_of r.entry) r.dot (info_of r.entry))

-- each child on the member that placement gives it
abbrev pub child_lines : Weigher → List Row → Row → List ℕ
child_lines weigher rows = with_losers rows children (λ r. child_line (key_of r.entry) r.dot (spec_of r.entry) (place weigher (eligible rows) (key_of r.entry)))

-- each name where its child is
abbrev pub name_lines : Weigher → List Row → Row → List ℕ
name_lines weigher rows = with_losers rows names (λ r. name_line (key_of r.entry) r.dot (where_child weigher rows (target_of r.entry)))

-- the lines of live rows
abbrev pub tables_text : Weigher → List Row → List ℕ
tables_text weigher rows = text (
    flat_map (member_lines rows) (winners rows members)
    ∷ flat_map (child_lines weigher rows) (winners rows children)
    ∷ flat_map (name_lines weigher rows) (winners rows names) ∷ [])

-- what of a node is shown
pub record Shown : Type 0 where
  pub boot : ℕ
  pub rows : List Row  -- live
  pub kept : List KeptChild

abbrev pub shown_of : Station State → Shown
shown_of s = record { boot = s.node.supervisor.boot; rows = s.node.known.rows; kept = s.node.supervisor.kept }

-- of a node that is lent, and nothing of a stopped one
abbrev pub shown_at : {W : Type 0} {g : _} → Option (Bor (Node W g)) → Option Shown
shown_at None = None
shown_at (Some n) = Some (shown_of (station_of n.now))

-- node N down
abbrev pub down_text : Bytes → List ℕ
down_text at = text (codes "node " ∷ at ∷ codes " down\n" ∷ [])

-- the lines of a node, with none where it's stopped: node N boot B, then its tables and what it keeps
abbrev pub show_text : Weigher → Bytes → Option Shown → List ℕ
show_text weigher at None = down_text at
show_text weigher at (Some s) = text (
    codes "node " ∷ at ∷ codes " boot " ∷ decimal s.boot ∷ codes "\n"
    ∷ tables_text weigher s.rows ∷ flat_map kept_line s.kept ∷ [])

-- where a name leads at a node: NAME ID on M, NAME ID unplaced, NAME ID gone, NAME unknown
abbrev pub where_text : Weigher → Bytes → Option Shown → Bytes → List ℕ
where_text weigher at None name = down_text at
where_text weigher at (Some s) name = text (name ∷ codes " " ∷ lead_text (where_is weigher s.rows name) ∷ codes "\n" ∷ [])
