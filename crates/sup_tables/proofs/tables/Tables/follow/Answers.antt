use Rattle.std.proofs.Common.{sym, subst}
use Rattle.sup_tables.specs.Planned.{IsPlanFor}
use Rattle.sup_tables.proofs.tables.Tables.follow.Goals as goal

pub open-requires : goal.open-requires
open-requires c = (c.requires.0, subst (λ s. IsPlanFor c.args.plan s c.requires.0) (sym c.replace-tables.ensures.value) c.requires.1)

pub carried_out-requires : goal.carried_out-requires
carried_out-requires c =
    let new = c.requires.0 in
    (c.replace-tables.result, new, c.in-Ok.ensures.open new (subst (λ s. IsPlanFor c.args.plan s new) (sym c.replace-tables.ensures.value) c.requires.1))

pub returns-in-Ok-clause-made : goal.returns-in-Ok-clause-made
returns-in-Ok-clause-made c new is = c.carried_out.ensures c.replace-tables.result new (c.in-Ok.ensures.open new (subst (λ s. IsPlanFor c.args.plan s new) (sym c.replace-tables.ensures.value) is))
