use Rattle.std.specs.Prelude.{[], ◌∷◌}
use Rattle.std.proofs.Common.{◌∙◌, ap, sym, subst}
use Rattle.sup_tables.specs.declared.row.Entry.TheVariants.{Member}
use Rattle.sup_tables.specs.Rows.{members}
use Rattle.sup_tables.specs.Readers.{live_dots}
use Rattle.sup_tables.specs.Makers.{adding, drain_member}
use Rattle.sup_tables.specs.States.{StandsFor}
use Rattle.sup_tables.proofs.tables.Tables.add_draining.Goals as goal

pub returns-clause-stands : goal.returns-clause-stands
returns-clause-stands c =
    subst (λ op. StandsFor c.in_ok-delta.delta (op ∷ []))
    (ap (adding c.next_dot-dot.result (Member c.args.m.now c.in_ok-info.info)) (c.deref.ensures.value ∙ c.in_ok-dots.ensures.dots) ∙ sym (c.in_ok-info.ensures c.next_dot-dot.result (live_dots c.args.self.now.rows members c.args.m.now)))
    c.in_ok-delta.ensures

pub returns-clause-state : goal.returns-clause-state
returns-clause-state c = c.are_of_one.ensures (drain_member c.args.self.now.rows c.next_dot-dot.result c.args.m.now) (returns-clause-stands c)
