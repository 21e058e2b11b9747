use Rattle.std.proofs.Common.{rules, ◌≡◌, false, sym, ◌∙◌}
use Rattle.sup_tables.specs.Rows.{members}
use Rattle.sup_tables.specs.Readers.{is_present}
use Rattle.sup_tables.proofs.EntryLaws.{no_live_dots}
use Rattle.sup_tables.proofs.tables.Tables.drain_member.Goals as goal

pub returns-then-is_none-clause-dots : goal.returns-then-is_none-clause-dots
returns-then-is_none-clause-dots c =
    let absent : is_present c.args.self.now.rows members c.args.m.now ≡ false = search rules in
    c.new.ensures.items ∙ sym (no_live_dots c.args.self.now.rows members c.args.m.now absent)
