use Rattle.std.proofs.Common.{sym, subst}
use Rattle.std.proofs.lemmas.Result.{on_ok_weaker}
use Rattle.sup_tables.specs.Lent.{entry_lent}
use Rattle.sup_tables.specs.declared.lent.LentEntry.{LentEntry}
use Rattle.sup_wire.specs.declared.version.Version.TheVariants.{Two}
use Rattle.sup_wire.specs.Forms.{dot_value, entry_value}
use Rattle.sup_wire.specs.Writing.{AddsTokens, tokens_of}
use Rattle.sup_wire.proofs.writing.rows.write_row.Goals as goal

pub returns-in-Child-clause-adds : goal.returns-in-Child-clause-adds
returns-in-Child-clause-adds c =
    on_ok_weaker c.write_child.result (λ h. subst (λ (e : LentEntry). AddsTokens c.args.out.now c.write_child.new.out (tokens_of (entry_value Two (entry_lent e) (dot_value c.args.row.now.dot.now)))) (sym c.in-Child.is) h) c.write_child.ensures.adds
