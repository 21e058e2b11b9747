-- The rows that come and go once a plan is carried out: under each key that the plan may change all rows go, and those come that are to stand
-- (this project).
use Rattle.std.specs.Prelude.{Bool, false, cond, List, [], ◌∷◌, ◌++◌, map, Option}
use Rattle.std.specs.Map.{lookup}
use Rattle.std.specs.BTreeMap.{is_at}
use Rattle.std.specs.declared.cmp.Ordering.{Ordering}
use Rattle.std.specs.declared.cmp.PartialEq.{Ghosts as EqGhosts}
use Rattle.std.specs.declared.cmp.PartialOrd.{Ghosts as PartialOrdGhosts}
use Rattle.std.specs.declared.cmp.Ord.{Ghosts as OrdGhosts}
use Rattle.sup_edits.specs.declared.edit.Edit.{Edit}
use Rattle.sup_edits.specs.declared.edit.Edit.TheVariants.{Comes, Goes}
use Rattle.sup_causal.specs.declared.dot.Dot.{Dot}
use Rattle.sup_dot_store.specs.declared.dot_fun.DotFun.{DotFun}
use Rattle.sup_dot_store.specs.Contents.{values_of}
use Rattle.sup_indexed.specs.declared.indexed_map.IndexedMap.{IndexedMap}
use Rattle.sup_indexed.specs.declared.planning.PlannedMap.{PlannedMap}
use Rattle.sup_indexed.specs.Contents.{functions_of, functions_planned}
use Rattle.sup_tables.specs.declared.row.Entry.{Entry}
use Rattle.sup_tables.specs.declared.row.Row.{Row}
use Rattle.sup_tables.specs.Rows.{said_row}
use Rattle.sup_tables.specs.Stored.{values_under}

-- the rows of a key, by dot
abbrev pub rows_at : {V R : Type 0} → (Dot → V → R) → List (Dot × V) → List R
rows_at make es = map (λ e. make e.0 e.1) es

-- the edits by which the rows of a key come, or go, where the values say them
abbrev pub edits_at : {K V : Type 0} → Bool → (K → V → Entry) → K → List (Dot × V) → List (Edit Row)
edits_at comes says key es = map (cond comes Comes Goes) (rows_at (said_row says key) es)

-- the edits by which all rows of a key go
abbrev pub gone_edits : {K V : Type 0} → (K → V → Entry) → K → Option (DotFun V) → List (Edit Row)
gone_edits says key old = edits_at false says key (values_under old)

-- the edits of a key by what stands there and what is to stand
abbrev pub key_edits : {V R : Type 0} → (Dot → V → R) → Option (DotFun V) → DotFun V → List (Edit R)
key_edits make old new = map Goes (rows_at make (values_under old)) ++ map Comes (rows_at make (values_of new).entries)

-- the edits of a table by the functions that are to change, and those that stand
abbrev pub table_edits : {K V R : Type 0} → (K → K → Ordering) → (K → Dot → V → R) → List (K × DotFun V) → List (K × DotFun V) → List (Edit R)
table_edits cmp make [] es = []
table_edits cmp make (p ∷ ps) es = key_edits (make p.0) (lookup (is_at (cmp p.0)) es) p.1 ++ table_edits cmp make ps es

-- the edits that a plan makes of a table
abbrev pub planned_edits : {K V : Type 0} {eq : EqGhosts K} {ord : OrdGhosts K} {partial : PartialOrdGhosts K} {value_eq : EqGhosts V} {value_ord : OrdGhosts V} {value_partial : PartialOrdGhosts V}
    → (K → V → Entry) → PlannedMap K V → IndexedMap K V eq ord partial value_eq value_ord value_partial → List (Edit Row)
planned_edits {K} {V} {eq} {ord} says plan table = table_edits ord.cmp (said_row says) (functions_planned plan).entries (functions_of table).entries
