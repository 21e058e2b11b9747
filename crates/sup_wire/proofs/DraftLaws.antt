-- Messages and images: what is read was written so, and what is written so is read.
use Rattle.std.proofs.Common.{◌≡◌, inl, inr, ℕ, [], ◌∷◌, Some, codes, refl, ap, subst, ◌∙◌, arith}
use Rattle.std.specs.Prelude.{bytes_eq}
use Rattle.std.proofs.lemmas.Option.{option_and_then_some, same_Some}
use Rattle.sup_specs.specs.Values.{Bytes}
use Rattle.sup_specs.specs.declared.limits.TheConstants.{MAX}
use Rattle.serde_json.specs.Data.{Data, string}
use Rattle.serde_json.specs.Find.{get}
use Rattle.sup_wire.specs.declared.version.Version.{Version}
use Rattle.sup_wire.specs.Drafts.{Draft, ack, push, delta, image, SaysMessage, SaysImage}
use Rattle.sup_wire.specs.Forms.{version_number, value_in, IsFormed, IsName}
use Rattle.sup_wire.specs.Faults.{version_at}
use Rattle.sup_wire.specs.FieldReads.{has_just, name_in, within_in, ends_at, kind_at}
use Rattle.sup_wire.specs.DraftReads.{parts_at, ack_fields, ack_at, push_fields, push_at, delta_fields, delta_at, image_fields, opening_at, image_at, message_from, message_at, image_from, stored_at}
use Rattle.sup_wire.proofs.FieldLaws.{just, when, same, chosen, name_in_takes, name_again, within_in_takes, within_in_again, ends_takes, ends_again, version_is, kind_is}
use Rattle.sup_wire.proofs.PartLaws.{parts_takes, parts_again}

-- a value is one of this draft, whose fields are what they may be
abbrev pub IsValue : Version → (Draft → Type 0) → Data → Draft → Type 0
IsValue v Kind d x = (d ≡ value_in v x) × IsFormed v x × Kind x

ack_takes : (v : Version) (d : Data) (x : Draft) → version_at d ≡ Some (version_number v) → kind_at d ≡ Some (codes "ack") → ack_at d ≡ Some x → IsValue v SaysMessage d x
unfolding ack_at ack_fields
ack_takes v d x version kind e =
    let j = when (has_just (codes "from" ∷ codes "kind" ∷ codes "n" ∷ codes "to" ∷ codes "v" ∷ []) d) _ x e in
    let f = just (codes "from" ∷ codes "kind" ∷ codes "n" ∷ codes "to" ∷ codes "v" ∷ []) d j.0 in
    let is = f.1.1.1.1.1 in
    let from_there : get (codes "from") d ≡ Some f.0 = ap (λ z. get (codes "from") z) is in
    let kind_there : get (codes "kind") d ≡ Some f.1.0 = ap (λ z. get (codes "kind") z) is in
    let n_there : get (codes "n") d ≡ Some f.1.1.0 = ap (λ z. get (codes "n") z) is in
    let to_there : get (codes "to") d ≡ Some f.1.1.1.0 = ap (λ z. get (codes "to") z) is in
    let v_there : get (codes "v") d ≡ Some f.1.1.1.1.0 = ap (λ z. get (codes "v") z) is in
    option_and_then_some _ (ends_at d) x j.1 (λ ends ends_are rest.
    option_and_then_some _ (within_in (codes "n") 1 MAX d) x rest (λ n n_is last.
    let p = ends_takes d f.0 f.1.1.1.0 ends from_there to_there ends_are in
    let c = within_in_takes (codes "n") 1 MAX d f.1.1.0 n n_there n_is in
    let k = kind_is d f.1.0 (codes "ack") kind_there kind in
    let w = version_is d f.1.1.1.1.0 (version_number v) v_there version in
    let made : ack ends.0 ends.1 n ≡ x = same_Some _ x last in
    let whole : d ≡ value_in v (ack ends.0 ends.1 n) = is ∙ rw (p.0, k, c.0, p.1, w) in
    (whole ∙ ap (value_in v) made, subst (IsFormed v) made (p.2, record { least = c.1; most = c.2 }), subst SaysMessage made tt)))

push_takes : (v : Version) (d : Data) (x : Draft) → version_at d ≡ Some (version_number v) → kind_at d ≡ Some (codes "push") → push_at v d ≡ Some x → IsValue v SaysMessage d x
unfolding push_at push_fields
push_takes v d x version kind e =
    let j = when (has_just (codes "ctx" ∷ codes "from" ∷ codes "kind" ∷ codes "rows" ∷ codes "to" ∷ codes "v" ∷ []) d) _ x e in
    let f = just (codes "ctx" ∷ codes "from" ∷ codes "kind" ∷ codes "rows" ∷ codes "to" ∷ codes "v" ∷ []) d j.0 in
    let is = f.1.1.1.1.1.1 in
    let ctx_there : get (codes "ctx") d ≡ Some f.0 = ap (λ z. get (codes "ctx") z) is in
    let from_there : get (codes "from") d ≡ Some f.1.0 = ap (λ z. get (codes "from") z) is in
    let kind_there : get (codes "kind") d ≡ Some f.1.1.0 = ap (λ z. get (codes "kind") z) is in
    let rows_there : get (codes "rows") d ≡ Some f.1.1.1.0 = ap (λ z. get (codes "rows") z) is in
    let to_there : get (codes "to") d ≡ Some f.1.1.1.1.0 = ap (λ z. get (codes "to") z) is in
    let v_there : get (codes "v") d ≡ Some f.1.1.1.1.1.0 = ap (λ z. get (codes "v") z) is in
    option_and_then_some _ (ends_at d) x j.1 (λ ends ends_are rest.
    option_and_then_some _ (parts_at v d) x rest (λ t t_is last.
    let p = ends_takes d f.1.0 f.1.1.1.1.0 ends from_there to_there ends_are in
    let q = parts_takes v d f.0 f.1.1.1.0 t ctx_there rows_there t_is in
    let k = kind_is d f.1.1.0 (codes "push") kind_there kind in
    let w = version_is d f.1.1.1.1.1.0 (version_number v) v_there version in
    let made : push ends.0 ends.1 t ≡ x = same_Some _ x last in
    let whole : d ≡ value_in v (push ends.0 ends.1 t) = is ∙ rw (q.0, p.0, k, q.1, p.1, w) in
    (whole ∙ ap (value_in v) made, subst (IsFormed v) made (p.2, q.2), subst SaysMessage made tt)))

delta_takes : (v : Version) (d : Data) (x : Draft) → version_at d ≡ Some (version_number v) → kind_at d ≡ Some (codes "delta") → delta_at v d ≡ Some x → IsValue v SaysMessage d x
unfolding delta_at delta_fields
delta_takes v d x version kind e =
    let j = when (has_just (codes "ctx" ∷ codes "from" ∷ codes "kind" ∷ codes "n" ∷ codes "rows" ∷ codes "to" ∷ codes "v" ∷ []) d) _ x e in
    let f = just (codes "ctx" ∷ codes "from" ∷ codes "kind" ∷ codes "n" ∷ codes "rows" ∷ codes "to" ∷ codes "v" ∷ []) d j.0 in
    let is = f.1.1.1.1.1.1.1 in
    let ctx_there : get (codes "ctx") d ≡ Some f.0 = ap (λ z. get (codes "ctx") z) is in
    let from_there : get (codes "from") d ≡ Some f.1.0 = ap (λ z. get (codes "from") z) is in
    let kind_there : get (codes "kind") d ≡ Some f.1.1.0 = ap (λ z. get (codes "kind") z) is in
    let n_there : get (codes "n") d ≡ Some f.1.1.1.0 = ap (λ z. get (codes "n") z) is in
    let rows_there : get (codes "rows") d ≡ Some f.1.1.1.1.0 = ap (λ z. get (codes "rows") z) is in
    let to_there : get (codes "to") d ≡ Some f.1.1.1.1.1.0 = ap (λ z. get (codes "to") z) is in
    let v_there : get (codes "v") d ≡ Some f.1.1.1.1.1.1.0 = ap (λ z. get (codes "v") z) is in
    option_and_then_some _ (ends_at d) x j.1 (λ ends ends_are rest.
    option_and_then_some _ (within_in (codes "n") 1 MAX d) x rest (λ n n_is rest2.
    option_and_then_some _ (parts_at v d) x rest2 (λ t t_is last.
    let p = ends_takes d f.1.0 f.1.1.1.1.1.0 ends from_there to_there ends_are in
    let c = within_in_takes (codes "n") 1 MAX d f.1.1.1.0 n n_there n_is in
    let q = parts_takes v d f.0 f.1.1.1.1.0 t ctx_there rows_there t_is in
    let k = kind_is d f.1.1.0 (codes "delta") kind_there kind in
    let w = version_is d f.1.1.1.1.1.1.0 (version_number v) v_there version in
    let made : delta ends.0 ends.1 n t ≡ x = same_Some _ x last in
    let whole : d ≡ value_in v (delta ends.0 ends.1 n t) = is ∙ rw (q.0, p.0, k, c.0, q.1, p.1, w) in
    (whole ∙ ap (value_in v) made, subst (IsFormed v) made (p.2, record { least = c.1; most = c.2 }, q.2), subst SaysMessage made tt))))

image_takes : (v : Version) (d : Data) (x : Draft) → version_at d ≡ Some (version_number v) → kind_at d ≡ Some (codes "image") → image_at v d ≡ Some x → IsValue v SaysImage d x
unfolding image_at image_fields opening_at
image_takes v d x version kind e =
    let j = when (has_just (codes "boot" ∷ codes "count" ∷ codes "ctx" ∷ codes "kind" ∷ codes "node" ∷ codes "rows" ∷ codes "v" ∷ []) d) _ x e in
    let f = just (codes "boot" ∷ codes "count" ∷ codes "ctx" ∷ codes "kind" ∷ codes "node" ∷ codes "rows" ∷ codes "v" ∷ []) d j.0 in
    let is = f.1.1.1.1.1.1.1 in
    let boot_there : get (codes "boot") d ≡ Some f.0 = ap (λ z. get (codes "boot") z) is in
    let count_there : get (codes "count") d ≡ Some f.1.0 = ap (λ z. get (codes "count") z) is in
    let ctx_there : get (codes "ctx") d ≡ Some f.1.1.0 = ap (λ z. get (codes "ctx") z) is in
    let kind_there : get (codes "kind") d ≡ Some f.1.1.1.0 = ap (λ z. get (codes "kind") z) is in
    let node_there : get (codes "node") d ≡ Some f.1.1.1.1.0 = ap (λ z. get (codes "node") z) is in
    let rows_there : get (codes "rows") d ≡ Some f.1.1.1.1.1.0 = ap (λ z. get (codes "rows") z) is in
    let v_there : get (codes "v") d ≡ Some f.1.1.1.1.1.1.0 = ap (λ z. get (codes "v") z) is in
    option_and_then_some _ (opening_at d) x j.1 (λ o o_is rest0.
    option_and_then_some _ (name_in (codes "node") d) o o_is (λ node node_is rest1.
    option_and_then_some _ (within_in (codes "boot") 1 MAX d) o rest1 (λ boot boot_is rest2.
    option_and_then_some _ (within_in (codes "count") 0 MAX d) o rest2 (λ count count_is opened.
    option_and_then_some _ (parts_at v d) x rest0 (λ t t_is last.
    let n = name_in_takes (codes "node") d f.1.1.1.1.0 node node_there node_is in
    let b = within_in_takes (codes "boot") 1 MAX d f.0 boot boot_there boot_is in
    let c = within_in_takes (codes "count") 0 MAX d f.1.0 count count_there count_is in
    let q = parts_takes v d f.1.1.0 f.1.1.1.1.1.0 t ctx_there rows_there t_is in
    let k = kind_is d f.1.1.1.0 (codes "image") kind_there kind in
    let w = version_is d f.1.1.1.1.1.1.0 (version_number v) v_there version in
    let opening : (node, boot, count) ≡ o = same_Some (node, boot, count) o opened in
    let made : image node boot count t ≡ x = ap (λ (z : Bytes × ℕ × ℕ). image z.0 z.1 z.2 t) opening ∙ same_Some _ x last in
    let whole : d ≡ value_in v (image node boot count t) = is ∙ rw (b.0, c.0, q.0, k, n.0, q.1, w) in
    (whole ∙ ap (value_in v) made, subst (IsFormed v) made (n.1, record { least = b.1; most = b.2 }, c.2, q.2), subst SaysImage made tt))))))

pub message_takes : (v : Version) (d : Data) (x : Draft) → version_at d ≡ Some (version_number v) → message_at v d ≡ Some x → IsValue v SaysMessage d x
unfolding message_at message_from
message_takes v d x version e = option_and_then_some _ (kind_at d) x e (λ kind is rest.
    elim (chosen (bytes_eq kind (codes "ack")) _ _ (Some x) rest) [
      | inl p ↦ ack_takes v d x version (is ∙ ap Some (same kind (codes "ack") p.0)) p.1
      | inr p ↦ elim (chosen (bytes_eq kind (codes "push")) _ _ (Some x) p.1) [
        | inl q ↦ push_takes v d x version (is ∙ ap Some (same kind (codes "push") q.0)) q.1
        | inr q ↦ let r = when (bytes_eq kind (codes "delta")) _ x q.1 in delta_takes v d x version (is ∙ ap Some (same kind (codes "delta") r.0)) r.1
      ]
    ])

pub stored_takes : (v : Version) (d : Data) (x : Draft) → version_at d ≡ Some (version_number v) → stored_at v d ≡ Some x → IsValue v SaysImage d x
unfolding stored_at image_from
stored_takes v d x version e = option_and_then_some _ (kind_at d) x e (λ kind is rest.
    let r = when (bytes_eq kind (codes "image")) _ x rest in
    image_takes v d x version (is ∙ ap Some (same kind (codes "image") r.0)) r.1)

pub message_again : (v : Version) (x : Draft) → SaysMessage x → IsFormed v x → message_at v (value_in v x) ≡ Some x
unfolding message_at message_from ack_at ack_fields push_at push_fields delta_at delta_fields has_just
message_again v (ack from to n) kind is =
    let d = value_in v (ack from to n) in
    rw (ends_again d from to refl refl is.0, within_in_again (codes "n") 1 MAX n d refl is.1.least is.1.most)
message_again v (push from to t) kind is =
    let d = value_in v (push from to t) in
    rw (ends_again d from to refl refl is.0, parts_again v d t refl refl is.1)
message_again v (delta from to n t) kind is =
    let d = value_in v (delta from to n t) in
    rw (ends_again d from to refl refl is.0, within_in_again (codes "n") 1 MAX n d refl is.1.least is.1.most, parts_again v d t refl refl is.2)
message_again v (image node boot count t) kind is = absurd kind

name_in_again : (field : Bytes) (d : Data) (s : Bytes) → get field d ≡ Some (string s) → IsName s → name_in field d ≡ Some s
unfolding name_in
name_in_again field d s there is = rw there (name_again s is)

pub stored_again : (v : Version) (x : Draft) → SaysImage x → IsFormed v x → stored_at v (value_in v x) ≡ Some x
unfolding stored_at image_from image_at image_fields has_just opening_at
stored_again v (ack from to n) kind is = absurd kind
stored_again v (push from to t) kind is = absurd kind
stored_again v (delta from to n t) kind is = absurd kind
stored_again v (image node boot count t) kind is =
    let d = value_in v (image node boot count t) in
    rw (name_in_again (codes "node") d node refl is.0, within_in_again (codes "boot") 1 MAX boot d refl is.1.least is.1.most, within_in_again (codes "count") 0 MAX count d refl (omega arith) is.2, parts_again v d t refl refl is.3)

pub version_again : (v : Version) (x : Draft) → version_at (value_in v x) ≡ Some (version_number v)
version_again v (ack from to n) = refl
version_again v (push from to p) = refl
version_again v (delta from to n p) = refl
version_again v (image node boot count p) = refl
