use Rattle.std.proofs.Common.{◌≡◌, ◌++◌, map, sym, ap, subst, ◌∙◌, append_assoc}
use Rattle.sup_edits.specs.Edits.{edited, edit_of}
use Rattle.sup_specs.specs.Values.{text_cmp}
use Rattle.sup_indexed.specs.Contents.{functions_planned}
use Rattle.sup_tables.specs.Rows.{place_cmp}
use Rattle.sup_tables.specs.States.{State}
use Rattle.sup_tables.specs.Stored.{StoredTables, stored_in, member_row, child_row, name_row, state_of}
use Rattle.sup_tables.specs.Lent.{row_lent}
use Rattle.sup_tables.specs.Planned.{IsPlanFor}
use Rattle.sup_tables.specs.Edits.{table_edits}
use Rattle.sup_tables.proofs.EditedRows.{edits_told, edits_make, stand_in_order}
use Rattle.sup_tables.proofs.AfterLaws.{state_covered}
use Rattle.sup_tables.proofs.OrderedRows.{stored_is}
use Rattle.sup_tables.proofs.StoredLaws.{IsOrderedStored}
use Rattle.sup_tables.proofs.tables.Tables.lent_edits_after.Goals as goal

pub returns : goal.returns
returns c =
    let p = c.args.plan.now in
    let q = c.stores-store.result.now in
    let a : StoredTables = stored_in q in
    let o : IsOrderedStored a = record { member_values = q.first.ordered; child_values = q.second.first.ordered; name_values = q.second.second.ordered } in
    let om = c.in_ok-lend_edits.ensures.ordered in
    let oc = c.in_ok-lend_edits-2.ensures.ordered in
    let on = c.in_ok-lend_edits-3.ensures.ordered in
    let members = table_edits text_cmp member_row (functions_planned p.members).entries a.member_values in
    let children = table_edits text_cmp child_row (functions_planned p.children).entries a.child_values in
    let names = table_edits text_cmp name_row (functions_planned p.names).entries a.name_values in
    let told : map (edit_of row_lent) c.lend_edits-3.new.edits.items ≡ edits_told p a o om oc on =
    c.in_ok-lend_edits-3.ensures.edits
    ∙ ap (λ es. es ++ names) (c.in_ok-lend_edits-2.ensures.edits ∙ ap (λ es. es ++ children) (c.in_ok-lend_edits.ensures.edits ∙ ap (λ es. map (edit_of row_lent) es ++ members) c.new-edits.ensures.items))
    ∙ append_assoc members children names in
    let state = c.stores-store.ensures.state in
    let plan : (new : State) → IsPlanFor p c.args.self.now new → IsPlanFor p (state_of c.args.self.now.context a) new = λ new is. subst (λ t. IsPlanFor p t new) state is in
    record {
      rows = λ new is.
          edits_make p a o om oc on c.args.self.now.context new (plan new is)
          ∙ sym (ap (λ es. edited place_cmp es c.args.self.now.rows) told ∙ ap (edited place_cmp (edits_told p a o om oc on)) (ap (λ t. t.rows) state ∙ stored_is a o));
      in_order = λ new is. stand_in_order p a o om oc on c.args.self.now.context new (plan new is);
      covered = λ new is. state_covered new is.tables.kept;
    }
