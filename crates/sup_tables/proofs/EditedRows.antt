-- The edits that a plan tells make the rows that are to stand of those that stand.
use Rattle.std.specs.Prelude.{◌≡◌, List, ◌++◌, map, refl}
use Rattle.std.specs.declared.cmp.Ordering.TheVariants.{Less}
use Rattle.std.specs.List.{AllByRecursion}
use Rattle.std.specs.List.Sorted.{IsStrictlySortedBy}
use Rattle.std.specs.Map.{keys_of}
use Rattle.std.proofs.Common.{sym, subst, ap₂, ◌∙◌}
use Rattle.std.proofs.lemmas.Map.Lookups.{exact_bytes}
use Rattle.sup_specs.specs.Values.{Bytes, text_cmp}
use Rattle.sup_specs.specs.OrderLaws.{text_total}
use Rattle.sup_specs.specs.declared.child.ChildSpec.{ChildSpec}
use Rattle.sup_specs.specs.declared.child.MemberInfo.{MemberInfo}
use Rattle.sup_edits.specs.declared.edit.Edit.{Edit}
use Rattle.sup_edits.specs.Edits.{edited}
use Rattle.sup_edits.specs.Steps.{Step, item_of, AreOrdered, edits_in, old_items, new_items}
use Rattle.sup_edits.proofs.EditLaws.{steps_edit}
use Rattle.sup_edits.proofs.StepParts.{AreBefore, edits-append, old-append, new-append, ordered-append, all_both}
use Rattle.sup_causal.specs.declared.dot.Dot.{Dot}
use Rattle.sup_causal.specs.Dots.{Context}
use Rattle.sup_indexed.specs.Contents.{functions_planned}
use Rattle.sup_tables.specs.declared.planning.PlannedTables.{PlannedTables}
use Rattle.sup_tables.specs.declared.row.Row.{Row}
use Rattle.sup_tables.specs.Rows.{place_cmp, AreInOrder}
use Rattle.sup_tables.specs.RowLaws.{place_total}
use Rattle.sup_tables.specs.States.{State}
use Rattle.sup_tables.specs.Stored.{KeyedValues, StoredTables, member_row, child_row, name_row, stored_rows, state_of}
use Rattle.sup_tables.specs.Planned.{IsPlanFor}
use Rattle.sup_tables.specs.Edits.{table_edits}
use Rattle.sup_tables.proofs.AfterLaws.{rows_after}
use Rattle.sup_tables.proofs.OrderedRows.{stored_rise}
use Rattle.sup_tables.proofs.StoredLaws.{IsOrderedStored}
use Rattle.sup_tables.proofs.TableSteps.{entries_after, entries_rise, found_after, steps_after, edits_of, old_are, new_are, items_by, are_ordered, all_true}

module _ (p : PlannedTables) (a : StoredTables) (o : IsOrderedStored a) (om : IsStrictlySortedBy text_cmp (keys_of (functions_planned p.members).entries)) (oc : IsStrictlySortedBy text_cmp (keys_of (functions_planned p.children).entries))
    (on : IsStrictlySortedBy text_cmp (keys_of (functions_planned p.names).entries)) where
  abbrev ms : KeyedValues MemberInfo
  ms = (functions_planned p.members).entries

  abbrev cs : KeyedValues ChildSpec
  cs = (functions_planned p.children).entries

  abbrev ns : KeyedValues Bytes
  ns = (functions_planned p.names).entries

  -- what stands under each key once the plan is carried out
  abbrev made : StoredTables
  made = record {
    member_values = entries_after text_cmp text_total exact_bytes ms a.member_values;
    child_values = entries_after text_cmp text_total exact_bytes cs a.child_values;
    name_values = entries_after text_cmp text_total exact_bytes ns a.name_values;
  }

  made_ordered : IsOrderedStored made
  made_ordered = record {
    member_values = entries_rise text_cmp text_total exact_bytes ms a.member_values om o.member_values;
    child_values = entries_rise text_cmp text_total exact_bytes cs a.child_values oc o.child_values;
    name_values = entries_rise text_cmp text_total exact_bytes ns a.name_values on o.name_values;
  }

  abbrev member_steps : List (Step Row)
  member_steps = steps_after text_cmp text_total exact_bytes place_cmp member_row (λ k d v l e w. refl) ms a.member_values

  abbrev child_steps : List (Step Row)
  child_steps = steps_after text_cmp text_total exact_bytes place_cmp child_row (λ k d v l e w. refl) cs a.child_values

  abbrev name_steps : List (Step Row)
  name_steps = steps_after text_cmp text_total exact_bytes place_cmp name_row (λ k d v l e w. refl) ns a.name_values

  abbrev pub edits_told : List (Edit Row)
  edits_told = table_edits text_cmp member_row ms a.member_values ++ (table_edits text_cmp child_row cs a.child_values ++ table_edits text_cmp name_row ns a.name_values)

  told : edits_in (member_steps ++ (child_steps ++ name_steps)) ≡ edits_told
  told =
      edits-append member_steps (child_steps ++ name_steps)
      ∙ ap₂ (λ x y. x ++ y) (edits_of text_cmp text_total exact_bytes place_cmp member_row (λ k d v l e w. refl) ms a.member_values om)
      (edits-append child_steps name_steps
      ∙ ap₂ (λ x y. x ++ y) (edits_of text_cmp text_total exact_bytes place_cmp child_row (λ k d v l e w. refl) cs a.child_values oc) (edits_of text_cmp text_total exact_bytes place_cmp name_row (λ k d v l e w. refl) ns a.name_values on))

  old : old_items (member_steps ++ (child_steps ++ name_steps)) ≡ stored_rows a
  old =
      old-append member_steps (child_steps ++ name_steps)
      ∙ ap₂ (λ x y. x ++ y) (old_are text_cmp text_total exact_bytes place_cmp member_row (λ k d v l e w. refl) ms a.member_values o.member_values)
      (old-append child_steps name_steps
      ∙ ap₂ (λ x y. x ++ y) (old_are text_cmp text_total exact_bytes place_cmp child_row (λ k d v l e w. refl) cs a.child_values o.child_values) (old_are text_cmp text_total exact_bytes place_cmp name_row (λ k d v l e w. refl) ns a.name_values o.name_values))

  new : new_items (member_steps ++ (child_steps ++ name_steps)) ≡ stored_rows made
  new =
      new-append member_steps (child_steps ++ name_steps)
      ∙ ap₂ (λ x y. x ++ y) (new_are text_cmp text_total exact_bytes place_cmp member_row (λ k d v l e w. refl) ms a.member_values)
      (new-append child_steps name_steps
      ∙ ap₂ (λ x y. x ++ y) (new_are text_cmp text_total exact_bytes place_cmp child_row (λ k d v l e w. refl) cs a.child_values) (new_are text_cmp text_total exact_bytes place_cmp name_row (λ k d v l e w. refl) ns a.name_values))

  -- the rows of a table stand before those of the next ones
  names_behind : (q : Row) → ((k : Bytes) (d : Dot) (v : Bytes) → place_cmp q (name_row k d v) ≡ Less) → AllByRecursion (λ r. place_cmp q r ≡ Less) (map item_of name_steps)
  names_behind q less =
      items_by text_cmp text_total exact_bytes place_cmp name_row (λ k d v l e w. refl) (λ k. Unit {0}) (λ r. place_cmp q r ≡ Less) (λ k d v t. less k d v) ns a.name_values (all_true (keys_of ns)) (all_true (keys_of a.name_values))

  children_first : AreBefore place_cmp (map item_of child_steps) (map item_of name_steps)
  children_first =
      items_by text_cmp text_total exact_bytes place_cmp child_row (λ k d v l e w. refl) (λ k. Unit {0}) (λ q. AllByRecursion (λ r. place_cmp q r ≡ Less) (map item_of name_steps)) (λ k d v t. names_behind (child_row k d v) (λ l e w. refl))
      cs a.child_values (all_true (keys_of cs)) (all_true (keys_of a.child_values))

  members_first : AreBefore place_cmp (map item_of member_steps) (map item_of (child_steps ++ name_steps))
  members_first =
      items_by text_cmp text_total exact_bytes place_cmp member_row (λ k d v l e w. refl) (λ k. Unit {0}) (λ q. AllByRecursion (λ r. place_cmp q r ≡ Less) (map item_of (child_steps ++ name_steps)))
      (λ k d v t.
      all_both (λ r. place_cmp (member_row k d v) r ≡ Less) child_steps name_steps
      (items_by text_cmp text_total exact_bytes place_cmp child_row (λ k d v l e w. refl) (λ l. Unit {0}) (λ r. place_cmp (member_row k d v) r ≡ Less) (λ l e w u. refl) cs a.child_values (all_true (keys_of cs)) (all_true (keys_of a.child_values)))
      (names_behind (member_row k d v) (λ l e w. refl)))
      ms a.member_values (all_true (keys_of ms)) (all_true (keys_of a.member_values))

  ordered : AreOrdered place_cmp (member_steps ++ (child_steps ++ name_steps))
  ordered =
      ordered-append place_cmp member_steps (child_steps ++ name_steps) (are_ordered text_cmp text_total exact_bytes place_cmp member_row (λ k d v l e w. refl) ms a.member_values om o.member_values)
      (ordered-append place_cmp child_steps name_steps (are_ordered text_cmp text_total exact_bytes place_cmp child_row (λ k d v l e w. refl) cs a.child_values oc o.child_values)
      (are_ordered text_cmp text_total exact_bytes place_cmp name_row (λ k d v l e w. refl) ns a.name_values on o.name_values) children_first)
      members_first

  -- the rows that are to stand, if the first ones stand
  stand : (context : Context) (state : State) → IsPlanFor p (state_of context a) state → stored_rows made ≡ state.rows
  stand context state is =
      rows_after p context a o state is made made_ordered (λ k. found_after text_cmp text_total exact_bytes k ms a.member_values om o.member_values) (λ k. found_after text_cmp text_total exact_bytes k cs a.child_values oc o.child_values)
      (λ k. found_after text_cmp text_total exact_bytes k ns a.name_values on o.name_values)

  pub edits_make : (context : Context) (state : State) → IsPlanFor p (state_of context a) state → state.rows ≡ edited place_cmp edits_told (stored_rows a)
  edits_make context state is =
      sym (stand context state is) ∙ sym (sym (ap₂ (edited place_cmp) told old) ∙ steps_edit place_cmp place_total (member_steps ++ (child_steps ++ name_steps)) ordered ∙ new)

  pub stand_in_order : (context : Context) (state : State) → IsPlanFor p (state_of context a) state → AreInOrder state.rows
  stand_in_order context state is = subst AreInOrder (stand context state is) (stored_rise made made_ordered)
