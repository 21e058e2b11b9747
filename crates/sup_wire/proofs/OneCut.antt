-- A state is cut in one way, so a message or an image is written as one text.
use Rattle.std.proofs.Common.{◌≡◌, ℕ, ◌≤◌, Bool, cond, List, [], ◌∷◌, Some, Ordering, Less, Equal, Greater, is_eq, refl, sym, ap, ap₂, ◌∙◌, arith}
use Rattle.std.specs.Prelude.{unwrap_or}
use Rattle.std.specs.List.{AllByRecursion}
use Rattle.std.specs.Map.{keys_of, lookup}
use Rattle.std.specs.Ordering.{ordering_reverse, eq_by_cmp}
use Rattle.std.proofs.lemmas.Cmp.{tied_itself}
use Rattle.std.proofs.lemmas.Map.Lookups.{exact_bytes}
use Rattle.sup_specs.specs.Values.{Bytes, text_cmp}
use Rattle.sup_specs.specs.OrderLaws.{text_total}
use Rattle.std.specs.List.Sorted.{IsStrictlySortedBy}
use Rattle.sup_specs.proofs.RisingLaws.{rising_same}
use Rattle.sup_causal.specs.declared.dot.Dot.{Dot}
use Rattle.sup_causal.specs.Dots.{has, dot_cmp}
use Rattle.sup_causal.specs.DotLaws.{dot_total, dot_exact}
use Rattle.sup_causal.specs.Cut.{entry, IsCloud}
use Rattle.sup_causal.proofs.CutLemmas.{run_is_one}
use Rattle.sup_tables.specs.States.{State}
use Rattle.sup_tables.proofs.OperationLaws.{both_ways}
use Rattle.sup_tables.proofs.OrderedRows.{rising_already}
use Rattle.serde_json.specs.Written.{compact_text}
use Rattle.sup_wire.specs.declared.message.Message.{Message}
use Rattle.sup_wire.specs.declared.message.Message.TheVariants.{Ack, Push, Delta}
use Rattle.sup_wire.specs.declared.image.Image.{Image}
use Rattle.sup_wire.specs.Drafts.{TableParts, Draft, push, delta, image, IsCut, IsDraftOf, IsDraftOfImage}
use Rattle.sup_wire.specs.Faults.{IsTextOf}
use Rattle.sup_wire.specs.Forms.{value_of}

one_cloud : (holds : Dot → Bool) (a b : List Dot) → IsCloud holds a → IsCloud holds b → a ≡ b
one_cloud holds a b ca cb =
    sym (rising_already dot_cmp a ca.in_order)
    ∙ rising_same dot_cmp dot_total dot_exact a b (λ d. both_ways _ _ (λ h. (cb.beyond d).1 ((ca.beyond d).0 h)) (λ h. (ca.beyond d).1 ((cb.beyond d).0 h)))
    ∙ rising_already dot_cmp b cb.in_order

-- the entry of a name before all names is 0
entry_below : (es : List (Bytes × ℕ)) (k : Bytes) → AllByRecursion (λ l. text_cmp k l ≡ Less) (keys_of es) → entry es k ≡ 0
entry_below [] k all = refl
entry_below (e ∷ es) k all = ap (λ o. unwrap_or (cond (is_eq o) (Some e.1) (lookup (eq_by_cmp text_cmp k) es)) 0) all.0 ∙ entry_below es k all.1

entry_first : (e : Bytes × ℕ) (es : List (Bytes × ℕ)) → entry (e ∷ es) e.0 ≡ e.1
entry_first e es = ap (λ o. unwrap_or (cond (is_eq o) (Some e.1) (lookup (eq_by_cmp text_cmp e.0) es)) 0) (tied_itself text_total e.0)

all_less : (a b : Bytes) (ls : List Bytes) → text_cmp a b ≡ Less → AllByRecursion (λ l. text_cmp b l ≡ Less) ls → AllByRecursion (λ l. text_cmp a l ≡ Less) ls
all_less a b [] less all = tt
all_less a b (l ∷ ls) less all = (text_total.trans a b l less all.0, all_less a b ls less all.1)

-- a name whose entry is not 0 stands in no vector whose names are above it
not_above : (a b : Bytes × ℕ) (xs ys : List (Bytes × ℕ)) → 1 ≤ a.1 → AllByRecursion (λ l. text_cmp b.0 l ≡ Less) (keys_of ys) → text_cmp a.0 b.0 ≡ Less → entry (a ∷ xs) a.0 ≡ entry (b ∷ ys) a.0 → ⊥
not_above a b xs ys low all less same =
    let none : entry (b ∷ ys) a.0 ≡ 0 = entry_below (b ∷ ys) a.0 (less, all_less a.0 b.0 (keys_of ys) less all) in
    let zero : a.1 ≡ 0 = sym (entry_first a xs) ∙ same ∙ none in
    omega (arith, zero, low)

-- the entries behind the first
rest_of : (e : Bytes × ℕ) (es : List (Bytes × ℕ)) → AllByRecursion (λ l. text_cmp e.0 l ≡ Less) (keys_of es) → (k : Bytes) → entry es k ≡ cond (is_eq (text_cmp k e.0)) 0 (entry (e ∷ es) k)
rest_of e es all k = at (text_cmp k e.0) refl
  where
    at : (o : Ordering) → text_cmp k e.0 ≡ o → entry es k ≡ cond (is_eq o) 0 (unwrap_or (cond (is_eq o) (Some e.1) (lookup (eq_by_cmp text_cmp k) es)) 0)
    at Less is = refl
    at Equal is = ap (entry es) (exact_bytes k e.0 is) ∙ entry_below es e.0 all
    at Greater is = refl

pub one_vector : (a b : List (Bytes × ℕ)) → IsStrictlySortedBy text_cmp (keys_of a) → IsStrictlySortedBy text_cmp (keys_of b) → AllByRecursion (λ e. 1 ≤ e.1) a → AllByRecursion (λ e. 1 ≤ e.1) b → ((k : Bytes) → entry a k ≡ entry b k) → a ≡ b
unfolding IsStrictlySortedBy
one_vector [] [] ra rb la lb same = refl
one_vector [] (b ∷ ys) ra rb la lb same = absurd (let zero : 0 ≡ b.1 = same b.0 ∙ entry_first b ys in let low = lb.0 in omega (arith, zero, low))
one_vector (a ∷ xs) [] ra rb la lb same = absurd (let zero : a.1 ≡ 0 = sym (entry_first a xs) ∙ same a.0 in let low = la.0 in omega (arith, zero, low))
one_vector (a ∷ xs) (b ∷ ys) ra rb la lb same = at (text_cmp a.0 b.0) refl (one_vector xs ys ra.1 rb.1 la.1 lb.1)
  where
    at : (o : Ordering) → text_cmp a.0 b.0 ≡ o → (((k : Bytes) → entry xs k ≡ entry ys k) → xs ≡ ys) → a ∷ xs ≡ b ∷ ys
    at Less is later = absurd (not_above a b xs ys la.0 rb.0 is (same a.0))
    at Greater is later = absurd (not_above b a ys xs lb.0 ra.0 (text_total.antisymm b.0 a.0 ∙ ap ordering_reverse is) (sym (same b.0)))
    at Equal is later =
        let name : a.0 ≡ b.0 = exact_bytes a.0 b.0 is in
        let count : a.1 ≡ b.1 = sym (entry_first a xs) ∙ same a.0 ∙ ap (entry (b ∷ ys)) name ∙ entry_first b ys in
        let rest : (k : Bytes) → entry xs k ≡ entry ys k = λ k. rest_of a xs ra.0 k ∙ ap₂ (λ n e. cond (is_eq (text_cmp k n)) 0 e) name (same k) ∙ sym (rest_of b ys rb.0 k) in
        ap₂ (λ e es. e ∷ es) (λ i. (name i, count i)) (later rest)

pub one_cut : (s : State) (p q : TableParts) → IsCut s p → IsCut s q → p ≡ q
one_cut s p q cp cq =
    let vector : p.vector ≡ q.vector = one_vector p.vector q.vector cp.vector.by_name cq.vector.by_name cp.vector.left_out cq.vector.left_out (λ k. run_is_one (has s.context) k _ _ (cp.vector.runs k) (cq.vector.runs k)) in
    let cloud : p.cloud ≡ q.cloud = one_cloud (has s.context) p.cloud q.cloud cp.cloud cq.cloud in
    let rows : p.rows ≡ q.rows = cp.rows ∙ sym cq.rows in
    λ i. record { vector = vector i; cloud = cloud i; rows = rows i }

pub one_draft : (m : Message) (x y : Draft) → IsDraftOf m x → IsDraftOf m y → x ≡ y
one_draft (Ack from to n) x y a b = a ∙ sym b
one_draft (Push from to s) x y a b = a.2 ∙ ap (push from to) (one_cut s a.0 b.0 a.1 b.1) ∙ sym b.2
one_draft (Delta from to n s) x y a b = a.2 ∙ ap (delta from to n) (one_cut s a.0 b.0 a.1 b.1) ∙ sym b.2

pub one_image_draft : (i : Image) (x y : Draft) → IsDraftOfImage i x → IsDraftOfImage i y → x ≡ y
one_image_draft i x y a b = a.2 ∙ ap (image i.node i.boot i.count) (one_cut i.state a.0 b.0 a.1 b.1) ∙ sym b.2

pub one_text : {M : Type 0} (IsDraft : M → Draft → Type 0) (InRange : M → Type 0) (one : (m : M) (x y : Draft) → IsDraft m x → IsDraft m y → x ≡ y) (m : M) (a b : Bytes) → IsTextOf IsDraft InRange a m → IsTextOf IsDraft InRange b m → a ≡ b
one_text IsDraft InRange one m a b ta tb = ta.compact ∙ ap (λ d. compact_text (value_of d)) (one m ta.draft tb.draft ta.same tb.same) ∙ sym tb.compact
