use Rattle.std.proofs.Common.{sym}
use Rattle.sup_causal.specs.Dots.{dot_cmp}
use Rattle.sup_tables.proofs.OneForm.{same_dots}
use Rattle.sup_tables.proofs.OrderedRows.{rising_already}
use Rattle.sup_tables.proofs.tables.Tables.context_after.Goals as goal

pub returns-clause-context : goal.returns-clause-context
returns-clause-context c new is =
    let mine = c.args.plan.now.context in
    same_dots mine new.context (rising_already dot_cmp mine c.in_order.ensures) is.tables.one_form (λ d. sym (is.context d))
