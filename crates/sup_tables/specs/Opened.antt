-- Tables that are opened for a planned join: what they were, and what they are to be (this project).
use Rattle.std.specs.Prelude.{◌≡◌, ◌≤◌, Option, length}
use Rattle.std.specs.Option.{option_map}
use Rattle.sup_specs.specs.Values.{Bytes, text_cmp}
use Rattle.sup_causal.specs.declared.dot.Dot.{Dot}
use Rattle.sup_causal.specs.Dots.{Context, has}
use Rattle.sup_dot_store.specs.Index.{value_under}
use Rattle.sup_indexed.specs.Changed.{changed_value}
use Rattle.sup_indexed.specs.Contents.{functions_before, functions_to_be}
use Rattle.sup_tables.specs.declared.row.Row.{Row}
use Rattle.sup_tables.specs.declared.opening.OpenTables.{OpenTables}
use Rattle.sup_tables.specs.Rows.{Table, members, children, names}
use Rattle.sup_tables.specs.States.{State, row_at}
use Rattle.sup_tables.specs.Joined.{IsTables}
use Rattle.sup_tables.specs.Planned.{most_rows}
use Rattle.sup_tables.specs.Stored.{StoredTables, value_in, member_row, child_row, name_row}

-- the row of a dot under a table and a key
abbrev pub held_row : StoredTables → Dot → Table → Bytes → Option Row
held_row s d members k = option_map (member_row k d) (value_in s.member_values d k)
held_row s d children k = option_map (child_row k d) (value_in s.child_values d k)
held_row s d names k = option_map (name_row k d) (value_in s.name_values d k)

-- a context and stores are those of a state
pub record HoldsState (u : State) (context : Context) (s : StoredTables) : Type 0 where
  pub dots : (d : Dot) → has u.context d ≡ has context d
  pub rows : (d : Dot) (t : Table) (k : Bytes) → row_at u.rows d t k ≡ held_row s d t k
  pub tables : IsTables u
  pub room : length u.rows ≤ most_rows

-- the row that stood at a point
abbrev pub row_before : OpenTables → Dot → Table → Bytes → Option Row
row_before o d members k = option_map (member_row k d) (value_under text_cmp (functions_before o.members) k d)
row_before o d children k = option_map (child_row k d) (value_under text_cmp (functions_before o.children) k d)
row_before o d names k = option_map (name_row k d) (value_under text_cmp (functions_before o.names) k d)

-- the row that is to stand there
abbrev pub row_after : OpenTables → Dot → Table → Bytes → Option Row
row_after o d members k = option_map (member_row k d) (changed_value text_cmp (functions_to_be o.members) (functions_before o.members) k d)
row_after o d children k = option_map (child_row k d) (changed_value text_cmp (functions_to_be o.children) (functions_before o.children) k d)
row_after o d names k = option_map (name_row k d) (changed_value text_cmp (functions_to_be o.names) (functions_before o.names) k d)

-- the tables were the first state, and are to be the second
pub record IsOpen (o : OpenTables) (old new : State) : Type 0 where
  pub context_before : (d : Dot) → has old.context d ≡ has o.before d
  pub before : (d : Dot) (t : Table) (k : Bytes) → row_at old.rows d t k ≡ row_before o d t k
  pub tables_before : IsTables old
  pub room_before : length old.rows ≤ most_rows
  pub context_after : (d : Dot) → has new.context d ≡ has o.after d
  pub after : (d : Dot) (t : Table) (k : Bytes) → row_at new.rows d t k ≡ row_after o d t k
  pub tables_after : IsTables new
  pub room_after : length new.rows ≤ most_rows
