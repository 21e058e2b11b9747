-- A join of tables that is planned beside them: what it makes of a state, and what it touches (this project).
use Rattle.std.specs.Prelude.{◌≡◌, ℕ, ◌≤◌, ◌↔◌, true, List, Option, Some, None, length}
use Rattle.std.specs.Option.{option_map}
use Rattle.std.specs.BTreeMap.{get}
use Rattle.sup_specs.specs.Values.{Bytes, text_cmp}
use Rattle.sup_specs.specs.Rising.{among}
use Rattle.sup_specs.specs.contracts.child.ChildSpecOrd.TheImpl as child_spec_ord
use Rattle.sup_specs.specs.contracts.child.MemberInfoOrd.TheImpl as member_info_ord
use Rattle.std.specs.declared.cmp.Ordering.{Ordering}
use Rattle.sup_causal.specs.declared.dot.Dot.{Dot}
use Rattle.sup_causal.specs.Dots.{Context, has}
use Rattle.sup_causal.specs.Join.{lesser}
use Rattle.sup_dot_store.specs.declared.dot_fun.DotFun.{DotFun}
use Rattle.sup_dot_store.specs.ByDot.{at_dot}
use Rattle.sup_dot_store.specs.Contents.{values_of}
use Rattle.sup_dot_store.specs.Points.{standing, higher, value_at}
use Rattle.sup_indexed.specs.Changed.{changed_at}
use Rattle.sup_indexed.specs.Contents.{functions_planned}
use Rattle.sup_tables.specs.declared.row.Row.{Row}
use Rattle.sup_tables.specs.Rows.{Table, members, children, names}
use Rattle.sup_tables.specs.Readers.{winner, eligible}
use Rattle.sup_tables.specs.States.{State, row_at}
use Rattle.sup_tables.specs.Joined.{IsTables}
use Rattle.sup_tables.specs.Stored.{KeyedValues, StoredTables, value_in, member_row, child_row, name_row}
use Rattle.sup_tables.specs.declared.planning.PlannedTables.{PlannedTables}

-- the row at a point of a key, once its function is changed
abbrev pub changed_row : {V : Type 0} → (V → Row) → Option (DotFun V) → Option Row → Dot → Option Row
changed_row make None o d = o
changed_row make (Some f) o d = option_map make (at_dot (values_of f) d)

-- the row at a point once the plan is carried out, by the row that stood there
abbrev pub planned_row : PlannedTables → Option Row → Dot → Table → Bytes → Option Row
planned_row p o d members k = changed_row (member_row k d) (get text_cmp (functions_planned p.members) k) o d
planned_row p o d children k = changed_row (child_row k d) (get text_cmp (functions_planned p.children) k) o d
planned_row p o d names k = changed_row (name_row k d) (get text_cmp (functions_planned p.names) k) o d

-- the greatest number of rows that can be counted
abbrev pub most_rows : ℕ
most_rows = 18446744073709551615

-- what the tables become by the plan, if they are the first state
pub record IsPlanFor (p : PlannedTables) (old new : State) : Type 0 where
  pub context : (d : Dot) → has new.context d ≡ has p.context d
  pub rows : (d : Dot) (t : Table) (k : Bytes) → row_at new.rows d t k ≡ planned_row p (row_at old.rows d t k) d t k
  pub tables : IsTables new
  pub room : length new.rows ≤ most_rows

-- what is planned for a table are the higher values
abbrev pub IsPlanned : {V : Type 0} → (V → V → Ordering) → (Bytes → Option (DotFun V)) → Context → KeyedValues V → Context → KeyedValues V → Type 0
IsPlanned cmp changed ca a cb b = (d : Dot) (k : Bytes) → changed_at (changed k) (value_in a d k) d ≡ value_at (higher (lesser cmp) (standing (has ca d) (value_in a d k)) (standing (has cb d) (value_in b d k)))

pub record ArePlanned (p : PlannedTables) (ca : Context) (a : StoredTables) (cb : Context) (b : StoredTables) : Type 0 where
  pub at_members : IsPlanned (member_info_ord.ghosts).cmp (get text_cmp (functions_planned p.members)) ca a.member_values cb b.member_values
  pub at_children : IsPlanned (child_spec_ord.ghosts).cmp (get text_cmp (functions_planned p.children)) ca a.child_values cb b.child_values
  pub at_names : IsPlanned text_cmp (get text_cmp (functions_planned p.names)) ca a.name_values cb b.name_values

-- exactly the children whose winner, its dot or its specification, is another, is new or is gone
abbrev pub AreTouched : List Bytes → State → State → Type 0
AreTouched ids old new = (id : Bytes) → (among text_cmp ids id ≡ true) ↔ ¬ (winner new.rows children id ≡ winner old.rows children id)

-- children may be placed on other members than before
abbrev pub MembersDiffer : State → State → Type 0
MembersDiffer old new = ¬ (eligible new.rows ≡ eligible old.rows)

-- the row that is lent, if one is, is the winner of the child in each state that the plan makes of the old one
abbrev pub IsWinnerPlanned : PlannedTables → State → Bytes → Option Row → Type 0
IsWinnerPlanned plan old id lent = (new : State) → IsPlanFor plan old new → lent ≡ winner new.rows children id
