-- Contexts and tables: what is read was written so, and what is written so is read.
use Rattle.std.proofs.Common.{◌≡◌, ℕ, List, [], ◌∷◌, Some, codes, sym, ap, ap₂, subst, ◌∙◌}
use Rattle.std.specs.Prelude.{option_and_then}
use Rattle.std.proofs.lemmas.Option.{option_and_then_some, same_Some}
use Rattle.sup_specs.specs.Values.{Bytes}
use Rattle.serde_json.specs.Data.{Data, object, no_members, member}
use Rattle.serde_json.specs.Find.{get}
use Rattle.std.specs.List.{AllByRecursion}
use Rattle.serde_json.specs.Find.{as_object}
use Rattle.sup_causal.specs.declared.dot.Dot.{Dot}
use Rattle.sup_wire.specs.declared.version.Version.{Version}
use Rattle.sup_wire.specs.Drafts.{TableParts}
use Rattle.sup_wire.specs.Forms.{vector_members, context_value, rows_value, IsDot, IsNote, AreParts}
use Rattle.sup_wire.specs.FieldReads.{has_just}
use Rattle.sup_wire.specs.RowReads.{rows_at}
use Rattle.sup_wire.specs.DraftReads.{dots_at, vector_at, context_fields, cloud_in, vector_in, context_at, context_in, rows_in, parts_at}
use Rattle.sup_wire.proofs.FieldLaws.{just, when}
use Rattle.sup_wire.proofs.ListLaws.{as_object-object, dots_takes, dots_again, notes_takes, notes_again}
use Rattle.sup_wire.proofs.RowLaws.{rows_takes, rows_again}

vector_takes : (d : Data) (xs : List (Bytes × ℕ)) → vector_at d ≡ Some xs → (d ≡ object (vector_members xs)) × AllByRecursion IsNote xs
unfolding vector_at
vector_takes d xs e = option_and_then_some _ (as_object d) xs e (λ ms is rest.
    let p = notes_takes ms xs rest in
    (as_object-object d ms is ∙ ap object p.0, p.1))

-- the value of a vector and a cloud
abbrev pair_value : List (Bytes × ℕ) × List Dot → Data
pair_value c = context_value (record { vector = c.0; cloud = c.1; rows = [] })

context_takes : (d : Data) (c : List (Bytes × ℕ) × List Dot) → context_at d ≡ Some c → (d ≡ pair_value c) × (AllByRecursion IsNote c.0 × AllByRecursion IsDot c.1)
unfolding context_at context_fields cloud_in vector_in
context_takes d c e =
    let j = when (has_just (codes "cloud" ∷ codes "vector" ∷ []) d) _ c e in
    let f = just (codes "cloud" ∷ codes "vector" ∷ []) d j.0 in
    let is = f.1.1 in
    let cloud_there : get (codes "cloud") d ≡ Some f.0 = ap (λ z. get (codes "cloud") z) is in
    let vector_there : get (codes "vector") d ≡ Some f.1.0 = ap (λ z. get (codes "vector") z) is in
    option_and_then_some _ (option_and_then dots_at (get (codes "cloud") d)) c j.1 (λ cloud cloud_is rest.
    option_and_then_some _ (option_and_then vector_at (get (codes "vector") d)) c rest (λ vector vector_is last.
    let p = dots_takes f.0 cloud (sym (ap (λ o. option_and_then dots_at o) cloud_there) ∙ cloud_is) in
    let q = vector_takes f.1.0 vector (sym (ap (λ o. option_and_then vector_at o) vector_there) ∙ vector_is) in
    let made : (vector, cloud) ≡ c = same_Some (vector, cloud) c last in
    let whole : d ≡ pair_value (vector, cloud) = is ∙ ap₂ (λ u v. object (member (codes "cloud") u (member (codes "vector") v no_members))) p.0 q.0 in
    (whole ∙ ap pair_value made, subst (λ (z : List (Bytes × ℕ) × List Dot). AllByRecursion IsNote z.0 × AllByRecursion IsDot z.1) made (q.1, p.1))))

context_again : (t : TableParts) → AllByRecursion IsNote t.vector → AllByRecursion IsDot t.cloud → context_at (context_value t) ≡ Some (t.vector, t.cloud)
unfolding context_at context_fields has_just cloud_in vector_in vector_at
context_again t notes dots = rw (dots_again t.cloud dots, notes_again t.vector notes)

pub parts_takes : (v : Version) (d x y : Data) (t : TableParts) → get (codes "ctx") d ≡ Some x → get (codes "rows") d ≡ Some y → parts_at v d ≡ Some t → (x ≡ context_value t) × (y ≡ rows_value v t.rows) × AreParts v t
unfolding parts_at context_in rows_in
parts_takes v d x y t context_there rows_there e =
    option_and_then_some _ (option_and_then context_at (get (codes "ctx") d)) t e (λ c c_is rest.
    option_and_then_some _ (option_and_then (rows_at v) (get (codes "rows") d)) t rest (λ rows rows_is last.
    let p = context_takes x c (sym (ap (λ o. option_and_then context_at o) context_there) ∙ c_is) in
    let q = rows_takes v y rows (sym (ap (λ o. option_and_then (rows_at v) o) rows_there) ∙ rows_is) in
    let made : record { vector = c.0; cloud = c.1; rows = rows } ≡ t = same_Some _ t last in
    (p.0 ∙ ap context_value made, q.0 ∙ ap (λ (z : TableParts). rows_value v z.rows) made, subst (AreParts v) made (record { vector = p.1.0; cloud = p.1.1; rows = q.1 }))))

pub parts_again : (v : Version) (d : Data) (t : TableParts) → get (codes "ctx") d ≡ Some (context_value t) → get (codes "rows") d ≡ Some (rows_value v t.rows) → AreParts v t → parts_at v d ≡ Some t
unfolding parts_at context_in rows_in
parts_again v d t context_there rows_there are = rw (context_there, rows_there, context_again t are.vector are.cloud, rows_again v t.rows are.rows)
