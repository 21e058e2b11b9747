-- Dots, and lists of what is read: what is read was written so, and what is written so is read.
use Rattle.std.proofs.Common.{append_assoc, ◌≡◌, ℕ, List, [], ◌∷◌, ◌++◌, Option, Some, None, refl, sym, ap, ap₂, subst, ◌∙◌}
use Rattle.std.specs.Prelude.{option_map, map}
use Rattle.std.proofs.lemmas.Option.{option_and_then_some, same_Some, none-some}
use Rattle.sup_specs.specs.Values.{Bytes}
use Rattle.sup_specs.specs.declared.limits.TheConstants.{MAX}
use Rattle.serde_json.specs.Data.{Data, null, boolean, number, string, array, object, Items, no_items, item, Members, no_members, member}
use Rattle.sup_specs.specs.Texts.{text_fault}
use Rattle.sup_specs.specs.declared.texts.Alphabet.TheVariants.{NodeBytes}
use Rattle.std.specs.List.{AllByRecursion}
use Rattle.serde_json.specs.Find.{as_array, as_object}
use Rattle.serde_json.specs.View.{items_of}
use Rattle.sup_causal.specs.declared.dot.Dot.{Dot}
use Rattle.sup_specs.proofs.TextLemmas.{text_from_no_fault, no_fault_from_text}
use Rattle.sup_wire.specs.Forms.{count_value, dot_value, vector_members, IsName, IsDot, IsNote}
use Rattle.sup_wire.specs.FieldReads.{◌>>=◌, unfaulted, name_at, count_at}
use Rattle.sup_wire.specs.RowReads.{two_in, two_at, dot_at, each_in, after}
use Rattle.sup_wire.specs.DraftReads.{dots_at, name_from, note_from, notes_in}
use Rattle.sup_wire.proofs.FieldLaws.{unfaulted-some, name_takes, name_again, within_takes, within_again}

pub as_array-array : (d : Data) (ds : Items) → as_array d ≡ Some ds → d ≡ array ds
as_array-array null ds e = absurd (none-some ds e)
as_array-array (boolean b) ds e = absurd (none-some ds e)
as_array-array (number n) ds e = absurd (none-some ds e)
as_array-array (string t) ds e = absurd (none-some ds e)
as_array-array (array es) ds e = ap array (same_Some es ds e)
as_array-array (object ms) ds e = absurd (none-some ds e)

pub as_object-object : (d : Data) (ms : Members) → as_object d ≡ Some ms → d ≡ object ms
as_object-object null ms e = absurd (none-some ms e)
as_object-object (boolean b) ms e = absurd (none-some ms e)
as_object-object (number n) ms e = absurd (none-some ms e)
as_object-object (string t) ms e = absurd (none-some ms e)
as_object-object (array es) ms e = absurd (none-some ms e)
as_object-object (object ns) ms e = ap object (same_Some ns ms e)

pub two_in_takes : (ds : Items) (p : Data × Data) → two_in ds ≡ Some p → ds ≡ item p.0 (item p.1 no_items)
two_in_takes no_items p e = absurd (none-some p e)
two_in_takes (item a no_items) p e = absurd (none-some p e)
two_in_takes (item a (item b no_items)) p e = ap (λ (q : Data × Data). item q.0 (item q.1 no_items)) (same_Some (a, b) p e)
two_in_takes (item a (item b (item c ds))) p e = absurd (none-some p e)

pub two_takes : (d : Data) (p : Data × Data) → two_at d ≡ Some p → d ≡ array (item p.0 (item p.1 no_items))
unfolding two_at
two_takes d p e = option_and_then_some two_in (as_array d) p e (λ ds is rest. as_array-array d ds is ∙ ap array (two_in_takes ds p rest))

pub dot_takes : (d : Data) (x : Dot) → dot_at d ≡ Some x → (d ≡ dot_value x) × IsDot x
unfolding dot_at
dot_takes d x e =
    option_and_then_some _ (two_at d) x e (λ p p_is rest.
    option_and_then_some _ (name_at p.0) x rest (λ node node_is rest.
    option_and_then_some _ (count_at p.1) x rest (λ n n_is last.
    let a = name_takes p.0 node node_is in
    let b = within_takes 1 MAX p.1 n n_is in
    let made : record { counter = n; node = node } ≡ x = same_Some _ x last in
    let whole : d ≡ dot_value (record { counter = n; node = node }) = two_takes d p p_is ∙ ap₂ (λ u v. array (item u (item v no_items))) a.0 b.0 in
    (whole ∙ ap dot_value made, subst IsDot made (record { node = a.1; counter = record { least = b.1; most = b.2 } })))))

pub dot_again : (x : Dot) → IsDot x → dot_at (dot_value x) ≡ Some x
unfolding dot_at two_at
dot_again x is = rw (name_again x.node is.node, within_again 1 MAX x.counter is.counter.least is.counter.most)

-- one item more that was read
pub one_read : {Y : Type 0} (read : Data → Option Y) (front : List Y) (y : Y) (d : Data) (ds : Items) → read d ≡ Some y → after (front ++ y ∷ []) (each_in read ds) ≡ after front (each_in read (item d ds))
one_read {Y} read front y d ds here =
    at (each_in read ds) ∙ ap (λ o. after front (o >>= λ z. option_map (λ zs. z ∷ zs) (each_in read ds))) (sym here)
  where
    at : (o : Option (List Y)) → after (front ++ y ∷ []) o ≡ after front (option_map (λ zs. y ∷ zs) o)
    at None = refl
    at (Some zs) = ap Some (append_assoc front (y ∷ []) zs)

module _ {Y : Type 0} (read : Data → Option Y) (write : Y → Data) (Good : Y → Type 0) where
  pub each_takes : ((d : Data) (y : Y) → read d ≡ Some y → (d ≡ write y) × Good y) → (ds : Items) (ys : List Y) → each_in read ds ≡ Some ys → (ds ≡ items_of (map write ys)) × AllByRecursion Good ys
  each_takes one no_items ys e = subst (λ (zs : List Y). (no_items ≡ items_of (map write zs)) × AllByRecursion Good zs) (same_Some [] ys e) (refl, tt)
  each_takes one (item d ds) ys e =
      option_and_then_some _ (read d) ys e (λ y y_is rest.
      mapped y d ds ys (one d y y_is) (each_takes one ds) (each_in read ds) refl rest)
    where
      mapped : (y : Y) (d : Data) (ds : Items) (ys : List Y) → (d ≡ write y) × Good y → ((zs : List Y) → each_in read ds ≡ Some zs → (ds ≡ items_of (map write zs)) × AllByRecursion Good zs)
          → (o : Option (List Y)) → each_in read ds ≡ o → option_map (λ zs. y ∷ zs) o ≡ Some ys → (item d ds ≡ items_of (map write ys)) × AllByRecursion Good ys
      mapped y d ds ys here later None is e = absurd (none-some ys e)
      mapped y d ds ys here later (Some zs) is e =
          let l = later zs is in
          subst (λ (ws : List Y). (item d ds ≡ items_of (map write ws)) × AllByRecursion Good ws) (same_Some (y ∷ zs) ys e) (ap₂ item here.0 l.0, (here.1, l.1))

  pub each_again : ((y : Y) → Good y → read (write y) ≡ Some y) → (ys : List Y) → AllByRecursion Good ys → each_in read (items_of (map write ys)) ≡ Some ys
  each_again one [] all = refl
  each_again one (y ∷ ys) all = rw (one y all.0, each_again one ys all.1)

pub dots_takes : (d : Data) (xs : List Dot) → dots_at d ≡ Some xs → (d ≡ array (items_of (map dot_value xs))) × AllByRecursion IsDot xs
unfolding dots_at
dots_takes d xs e = option_and_then_some _ (as_array d) xs e (λ ds is rest.
    let p = each_takes dot_at dot_value IsDot dot_takes ds xs rest in
    (as_array-array d ds is ∙ ap array p.0, p.1))

pub dots_again : (xs : List Dot) → AllByRecursion IsDot xs → dots_at (array (items_of (map dot_value xs))) ≡ Some xs
unfolding dots_at
dots_again xs all = each_again dot_at dot_value IsDot dot_again xs all

pub note_takes : (k : Bytes) (d : Data) (note : Bytes × ℕ) → note_from k d ≡ Some note → (k ≡ note.0) × (d ≡ count_value note.1) × IsNote note
unfolding note_from
note_takes k d note e =
    option_and_then_some _ (name_from k) note e (λ node node_is rest.
    option_and_then_some _ (count_at d) note rest (λ n n_is last.
    let a = unfaulted-some (text_fault NodeBytes 1 64 k) k node node_is in
    let b = within_takes 1 MAX d n n_is in
    let made : (node, n) ≡ note = same_Some (node, n) note last in
    subst (λ (q : Bytes × ℕ). (k ≡ q.0) × (d ≡ count_value q.1) × IsNote q) made
    (a.1, b.0, (subst IsName a.1 (text_from_no_fault NodeBytes 1 64 k a.0), record { least = b.1; most = b.2 }))))

pub note_again : (note : Bytes × ℕ) → IsNote note → note_from note.0 (count_value note.1) ≡ Some note
unfolding note_from
note_again note is =
    let named : name_from note.0 ≡ Some note.0 = ap (λ f. unfaulted f note.0) (no_fault_from_text NodeBytes 1 64 note.0 is.0) in
    rw (named, within_again 1 MAX note.1 is.1.least is.1.most)

pub notes_takes : (ms : Members) (notes : List (Bytes × ℕ)) → notes_in ms ≡ Some notes → (ms ≡ vector_members notes) × AllByRecursion IsNote notes
notes_takes no_members notes e = subst (λ (zs : List (Bytes × ℕ)). (no_members ≡ vector_members zs) × AllByRecursion IsNote zs) (same_Some [] notes e) (refl, tt)
notes_takes (member k d ms) notes e =
    option_and_then_some _ (note_from k d) notes e (λ note is rest. mapped note k d ms notes (note_takes k d note is) (notes_takes ms) (notes_in ms) refl rest)
  where
    mapped : (note : Bytes × ℕ) (k : Bytes) (d : Data) (ms : Members) (notes : List (Bytes × ℕ)) → (k ≡ note.0) × (d ≡ count_value note.1) × IsNote note
        → ((zs : List (Bytes × ℕ)) → notes_in ms ≡ Some zs → (ms ≡ vector_members zs) × AllByRecursion IsNote zs)
        → (o : Option (List (Bytes × ℕ))) → notes_in ms ≡ o → option_map (λ zs. note ∷ zs) o ≡ Some notes → (member k d ms ≡ vector_members notes) × AllByRecursion IsNote notes
    mapped note k d ms notes here later None is e = absurd (none-some notes e)
    mapped note k d ms notes here later (Some zs) is e =
        let l = later zs is in
        subst (λ (ws : List (Bytes × ℕ)). (member k d ms ≡ vector_members ws) × AllByRecursion IsNote ws) (same_Some (note ∷ zs) notes e) (rw (here.0, here.1, l.0), (here.2, l.1))

pub notes_again : (notes : List (Bytes × ℕ)) → AllByRecursion IsNote notes → notes_in (vector_members notes) ≡ Some notes
notes_again [] all = refl
notes_again (note ∷ notes) all = rw (note_again note all.0, notes_again notes all.1)
