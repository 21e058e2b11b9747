-- Rows: what is read was written so, and what is written so is read.
use Rattle.std.proofs.Common.{◌≡◌, inl, inr, List, Some, codes, refl, sym, ap, ap₂, subst, ◌∙◌}
use Rattle.std.specs.Prelude.{bytes_eq}
use Rattle.std.proofs.lemmas.Option.{option_and_then_some, same_Some, none-some}
use Rattle.sup_specs.specs.Values.{Bytes}
use Rattle.serde_json.specs.Data.{Data, string, array, Items, no_items, item}
use Rattle.serde_json.specs.Find.{as_str}
use Rattle.std.specs.List.{AllByRecursion}
use Rattle.sup_tables.specs.declared.row.Entry.{Entry}
use Rattle.sup_tables.specs.declared.row.Entry.TheVariants.{Member, Child, Name}
use Rattle.sup_tables.specs.declared.row.Row.{Row}
use Rattle.serde_json.specs.Find.{as_array}
use Rattle.sup_wire.specs.declared.version.Version.{Version}
use Rattle.sup_wire.specs.Forms.{dot_value, spec_value, info_value, entry_value, IsEntry, row_value, IsRow, rows_value}
use Rattle.sup_wire.specs.FieldReads.{name_at, text_at}
use Rattle.sup_wire.specs.RowReads.{FourItems, four_in, four_at, dot_at, spec_at, info_at, member_at, child_at, registered_at, entry_at, row_at, rows_at}
use Rattle.sup_wire.proofs.FieldLaws.{as_str-string, name_takes, name_again, text_takes, text_again, chosen, when, same}
use Rattle.sup_wire.proofs.ListLaws.{as_array-array, dot_takes, dot_again, each_takes, each_again}
use Rattle.sup_wire.proofs.ChildLaws.{spec_takes, spec_again, info_takes, info_again}

four_in_takes : (ds : Items) (p : FourItems) → four_in ds ≡ Some p → ds ≡ item p.table (item p.key (item p.dot (item p.value no_items)))
four_in_takes no_items p e = absurd (none-some p e)
four_in_takes (item a no_items) p e = absurd (none-some p e)
four_in_takes (item a (item b no_items)) p e = absurd (none-some p e)
four_in_takes (item a (item b (item c no_items))) p e = absurd (none-some p e)
four_in_takes (item a (item b (item c (item d no_items)))) p e = ap (λ (q : FourItems). item q.table (item q.key (item q.dot (item q.value no_items)))) (same_Some (record { table = a; key = b; dot = c; value = d }) p e)
four_in_takes (item a (item b (item c (item d (item f ds))))) p e = absurd (none-some p e)

four_takes : (d : Data) (p : FourItems) → four_at d ≡ Some p → d ≡ array (item p.table (item p.key (item p.dot (item p.value no_items))))
unfolding four_at
four_takes d p e = option_and_then_some four_in (as_array d) p e (λ ds is rest. as_array-array d ds is ∙ ap array (four_in_takes ds p rest))

-- an entry stands for its table, key and value
abbrev Stands : Version → Bytes → Data → Data → Entry → Type 0
Stands v table key value x = ((dot : Data) → array (item (string table) (item key (item dot (item value no_items)))) ≡ entry_value v x dot) × IsEntry v x

member_takes : (v : Version) (key value : Data) (x : Entry) → member_at v key value ≡ Some x → Stands v (codes "member") key value x
unfolding member_at
member_takes v key value x e =
    option_and_then_some _ (name_at key) x e (λ node node_is rest.
    option_and_then_some _ (info_at v value) x rest (λ info info_is last.
    let p = name_takes key node node_is in
    let q = info_takes v value info info_is in
    subst (λ (z : Entry). Stands v (codes "member") key value z) (same_Some (Member node info) x last) ((λ dot. rw (p.0, q.0)), (p.1, q.1, q.2))))

child_takes : (v : Version) (key value : Data) (x : Entry) → child_at key value ≡ Some x → Stands v (codes "child") key value x
unfolding child_at
child_takes v key value x e =
    option_and_then_some _ (text_at 1 128 key) x e (λ id id_is rest.
    option_and_then_some _ (spec_at value) x rest (λ spec spec_is last.
    let p = text_takes 1 128 key id id_is in
    let q = spec_takes value spec spec_is in
    subst (λ (z : Entry). Stands v (codes "child") key value z) (same_Some (Child id spec) x last) ((λ dot. rw (p.0, q.0)), (p.1, q.1))))

registered_takes : (v : Version) (key value : Data) (x : Entry) → registered_at key value ≡ Some x → Stands v (codes "name") key value x
unfolding registered_at
registered_takes v key value x e =
    option_and_then_some _ (text_at 1 128 key) x e (λ name name_is rest.
    option_and_then_some _ (text_at 1 128 value) x rest (λ id id_is last.
    let p = text_takes 1 128 key name name_is in
    let q = text_takes 1 128 value id id_is in
    subst (λ (z : Entry). Stands v (codes "name") key value z) (same_Some (Name name id) x last) ((λ dot. rw (p.0, q.0)), (p.1, q.1))))

entry_takes : (v : Version) (table : Bytes) (key value : Data) (x : Entry) → entry_at v table key value ≡ Some x → Stands v table key value x
unfolding entry_at
entry_takes v table key value x e = elim (chosen (bytes_eq table (codes "member")) _ _ (Some x) e) [
  | inl p ↦ subst (λ (t : Bytes). Stands v t key value x) (sym (same table (codes "member") p.0)) (member_takes v key value x p.1)
  | inr p ↦ elim (chosen (bytes_eq table (codes "child")) _ _ (Some x) p.1) [
    | inl q ↦ subst (λ (t : Bytes). Stands v t key value x) (sym (same table (codes "child") q.0)) (child_takes v key value x q.1)
    | inr q ↦ let r = when (bytes_eq table (codes "name")) _ x q.1 in subst (λ (t : Bytes). Stands v t key value x) (sym (same table (codes "name") r.0)) (registered_takes v key value x r.1)
  ]
]

pub row_takes : (v : Version) (d : Data) (x : Row) → row_at v d ≡ Some x → (d ≡ row_value v x) × IsRow v x
unfolding row_at
row_takes v d x e =
    option_and_then_some _ (four_at d) x e (λ p p_is rest.
    option_and_then_some _ (as_str p.table) x rest (λ table table_is rest2.
    option_and_then_some _ (dot_at p.dot) x rest2 (λ dot dot_is rest3.
    option_and_then_some _ (entry_at v table p.key p.value) x rest3 (λ entry entry_is last.
    let a = as_str-string p.table table table_is in
    let b = dot_takes p.dot dot dot_is in
    let c = entry_takes v table p.key p.value entry entry_is in
    let y : Row = record { entry = entry; dot = dot } in
    let made : y ≡ x = same_Some y x last in
    let whole : d ≡ row_value v y = four_takes d p p_is ∙ ap₂ (λ u v. array (item u (item p.key (item v (item p.value no_items))))) a b.0 ∙ c.0 (dot_value dot) in
    (whole ∙ ap (row_value v) made, subst (IsRow v) made (c.1, b.1))))))

entry_again : (v : Version) (x : Entry) (dot : Data) → IsEntry v x → (p : FourItems) × (four_at (entry_value v x dot) ≡ Some p) × (p.dot ≡ dot) × ((table : Bytes) × (as_str p.table ≡ Some table) × (entry_at v table p.key p.value ≡ Some x))
unfolding four_at entry_at member_at child_at registered_at
entry_again v (Member m info) dot is = (record { table = string (codes "member"); key = string m; dot = dot; value = info_value v info }, refl, refl, (codes "member", refl, rw (name_again m is.0, info_again v info is.1 is.2)))
entry_again v (Child id spec) dot is = (record { table = string (codes "child"); key = string id; dot = dot; value = spec_value spec }, refl, refl, (codes "child", refl, rw (text_again 1 128 id is.0, spec_again spec is.1)))
entry_again v (Name name id) dot is = (record { table = string (codes "name"); key = string name; dot = dot; value = string id }, refl, refl, (codes "name", refl, rw (text_again 1 128 name is.0, text_again 1 128 id is.1)))

pub row_again : (v : Version) (x : Row) → IsRow v x → row_at v (row_value v x) ≡ Some x
unfolding row_at
row_again v x is =
    let e = entry_again v x.entry (dot_value x.dot) is.0 in
    rw (e.1, e.3.1, e.2, dot_again x.dot is.1, e.3.2)

pub rows_takes : (v : Version) (d : Data) (xs : List Row) → rows_at v d ≡ Some xs → (d ≡ rows_value v xs) × AllByRecursion (IsRow v) xs
unfolding rows_at
rows_takes v d xs e = option_and_then_some _ (as_array d) xs e (λ ds is rest.
    let p = each_takes (row_at v) (row_value v) (IsRow v) (row_takes v) ds xs rest in
    (as_array-array d ds is ∙ ap array p.0, p.1))

pub rows_again : (v : Version) (xs : List Row) → AllByRecursion (IsRow v) xs → rows_at v (rows_value v xs) ≡ Some xs
unfolding rows_at
rows_again v xs all = each_again (row_at v) (row_value v) (IsRow v) (row_again v) xs all
