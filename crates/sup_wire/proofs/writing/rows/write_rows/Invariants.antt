use Rattle.std.specs.List.{AllByRecursion}
use Rattle.std.proofs.Common.{◌≡◌, ◌++◌, drop, map}
use Rattle.json.specs.Tree.{items_tokens}
use Rattle.serde_json.specs.View.{items_of}
use Rattle.serde_json.specs.Written.{items_outline}
use Rattle.sup_tables.specs.Lent.{rows_lent}
use Rattle.sup_wire.specs.declared.version.Version.TheVariants.{Two}
use Rattle.sup_wire.specs.Forms.{IsWritten, row_value}
use Rattle.sup_wire.proofs.writing.rows.write_rows.Given as goal

abbrev pub invariant-loop-row : goal.invariant-loop-row
invariant-loop-row l = record {
  before : l.out.before ≡ l.initial.out.before;
  tokens : l.out.tokens ++ items_tokens (items_outline (items_of (map (row_value Two) (rows_lent (drop l.row-index l.rows))))) ≡ l.initial.out.tokens ++ items_tokens (items_outline (items_of (map (row_value Two) (rows_lent l.rows))));
  formed : AllByRecursion IsWritten (rows_lent (drop l.row-index l.rows)) → AllByRecursion IsWritten (rows_lent l.rows);
}
