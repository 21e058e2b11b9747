use Rattle.std.proofs.Common.{◌++◌, ap, ap₂, ◌∙◌}
use Rattle.json.specs.Print.{print}
use Rattle.serde_json.proofs.Texts.{print-outline}
use Rattle.sup_wire.specs.Forms.{row_value}
use Rattle.sup_wire.specs.Writing.{tokens_of}
use Rattle.sup_wire.specs.declared.version.Version.TheVariants.{Two}
use Rattle.sup_tables.specs.Lent.{row_lent}
use Rattle.sup_wire.proofs.row_item.RowItemItem.write_after.Goals as goal

pub returns-clause-text : goal.returns-clause-text
returns-clause-text c =
    let d = row_value Two (row_lent c.args.self.now.row) in
    let adds = c.in_ok-write_row.ensures.adds in
    c.into_inner.ensures.items
    ∙ ap₂ (λ b ts. b ++ print ts) (adds.before ∙ c.new-out.ensures.before) (adds.tokens ∙ ap (λ ts. ts ++ tokens_of d) c.new-out.ensures.tokens)
    ∙ ap (λ p. c.args.front.items ++ p) (print-outline d)
