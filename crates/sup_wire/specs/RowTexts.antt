-- The texts of rows (this project).
use Rattle.std.specs.Prelude.{◌≡◌, ◌<◌, ◌^◌, List, map, Option, Some, None}
use Rattle.std.specs.List.{AllByRecursion}
use Rattle.serde_json.specs.Written.{compact_text}
use Rattle.sup_specs.specs.Values.{Bytes}
use Rattle.sup_array_text.specs.Arrays.{ArrayShown}
use Rattle.sup_tables.specs.declared.row.Row.{Row}
use Rattle.sup_tables.specs.Rows.{AreInOrder}
use Rattle.sup_wire.specs.Forms.{row_value, IsWritten}
use Rattle.sup_wire.specs.declared.version.Version.TheVariants.{Two}

-- a row's text, in the version that is written
abbrev pub row_text : Row → Bytes
row_text r = compact_text (row_value Two r)

abbrev pub texts_of : List Row → List Bytes
texts_of rows = map row_text rows

-- rows in order, and their texts
pub record AreRows (rows : List Row) (texts : List Bytes) : Type 0 where
  pub same : texts ≡ texts_of rows
  pub in_order : AreInOrder rows
  pub written : AllByRecursion (λ r. IsWritten r × (r.dot.counter < 2 ^ 64)) rows

-- where there are rows, there is a text with theirs
abbrev pub AreTextsOf : Option (List Row) → Option ArrayShown → Type 0
AreTextsOf None t = Unit {0}
AreTextsOf (Some rows) None = ⊥
AreTextsOf (Some rows) (Some t) = AreRows rows t.items
