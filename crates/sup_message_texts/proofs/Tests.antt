-- The tests of parts and drafts tell what is said of them.
use Rattle.std.proofs.Common.{◌≡◌, ℕ, ◌+◌, ◌≤◌, Bool, true, ◌&&◌, List, [], ◌∷◌, Ordering, Less, refl, ap}
use Rattle.std.specs.List.{list_all, AllByRecursion}
use Rattle.std.specs.Map.{keys_of}
use Rattle.std.specs.Ordering.{is_lt}
use Rattle.std.proofs.lemmas.Bool.{and_parts, and_from, le-leb, leb-true}
use Rattle.std.proofs.lemmas.List.Elements.{All-from_recursion, recursion_from_All}
use Rattle.sup_specs.specs.Values.{Bytes, text_cmp}
use Rattle.std.specs.List.Sorted.{IsStrictlySortedBy}
use Rattle.sup_specs.specs.declared.limits.TheConstants.{MAX}
use Rattle.sup_causal.specs.declared.dot.Dot.{Dot}
use Rattle.sup_causal.specs.Dots.{dot_cmp}
use Rattle.sup_causal.specs.Cut.{entry, in_parts}
use Rattle.sup_causal.proofs.Sorted.{less_from_is_lt}
use Rattle.sup_tables.specs.declared.row.Row.{Row}
use Rattle.sup_tables.specs.Rows.{place_cmp}
use Rattle.sup_wire.specs.Drafts.{TableParts, Draft, ack, push, delta, image, AreCanonical, IsSound}
use Rattle.sup_message_texts.specs.Messages.{rises, is_within, is_canonical_vector, is_canonical_cloud, has_canonical_rows, are_canonical, is_sound}

module _ {X : Type 0} (test : X → Bool) (P : X → Type 0) where
  each_if : ((x : X) → test x ≡ true → P x) → (xs : List X) → list_all test xs ≡ true → AllByRecursion P xs
  each_if one [] e = tt
  each_if one (x ∷ xs) e = let b = and_parts (test x) (list_all test xs) e in (one x b.0, each_if one xs b.1)

  if_each : ((x : X) → P x → test x ≡ true) → (xs : List X) → AllByRecursion P xs → list_all test xs ≡ true
  if_each one [] all = refl
  if_each one (x ∷ xs) all = and_from (test x) (list_all test xs) (one x all.0) (if_each one xs all.1)

module _ {X : Type 0} (cmp : X → X → Ordering) where
  rising_if : (xs : List X) → rises cmp xs ≡ true → IsStrictlySortedBy cmp xs
  unfolding IsStrictlySortedBy
  rising_if [] e = tt
  rising_if (x ∷ xs) e =
      let b = and_parts (list_all (λ y. is_lt (cmp x y)) xs) (rises cmp xs) e in
      (each_if (λ y. is_lt (cmp x y)) (λ y. cmp x y ≡ Less) (λ y. less_from_is_lt (cmp x y)) xs b.0, rising_if xs b.1)

  if_rising : (xs : List X) → IsStrictlySortedBy cmp xs → rises cmp xs ≡ true
  unfolding IsStrictlySortedBy
  if_rising [] all = refl
  if_rising (x ∷ xs) all =
      and_from (list_all (λ y. is_lt (cmp x y)) xs) (rises cmp xs)
      (if_each (λ y. is_lt (cmp x y)) (λ y. cmp x y ≡ Less) (λ y less. ap is_lt less) xs all.0) (if_rising xs all.1)

within_if : (least most n : ℕ) → is_within least most n ≡ true → (least ≤ n) × (n ≤ most)
within_if least most n e = let b = and_parts _ _ e in (leb-true least n b.0, leb-true n most b.1)

if_within : (least most n : ℕ) → (least ≤ n) × (n ≤ most) → is_within least most n ≡ true
if_within least most n w = and_from _ _ (le-leb least n w.0) (le-leb n most w.1)

pub canonical_if : (p : TableParts) → are_canonical p ≡ true → AreCanonical p
canonical_if p e =
    let parts = and_parts (is_canonical_vector p.vector) (is_canonical_cloud p.vector p.cloud && has_canonical_rows p) e in
    let later = and_parts (is_canonical_cloud p.vector p.cloud) (has_canonical_rows p) parts.1 in
    let vector = and_parts (rises text_cmp (keys_of p.vector)) (list_all (λ (e : Bytes × ℕ). is_within 1 MAX e.1) p.vector) parts.0 in
    let cloud = and_parts (rises dot_cmp p.cloud) (list_all (λ (d : Dot). is_within (entry p.vector d.node + 2) MAX d.counter) p.cloud) later.0 in
    let rows = and_parts (rises place_cmp p.rows) (list_all (λ (r : Row). in_parts p.vector p.cloud r.dot) p.rows) later.1 in
    record {
      context = record {
        by_name = rising_if text_cmp (keys_of p.vector) vector.0;
        entries = each_if (λ (e : Bytes × ℕ). is_within 1 MAX e.1) (λ e. (1 ≤ e.1) × (e.1 ≤ MAX)) (λ e. within_if 1 MAX e.1) p.vector vector.1;
        in_order = rising_if dot_cmp p.cloud cloud.0;
        apart = each_if (λ (d : Dot). is_within (entry p.vector d.node + 2) MAX d.counter) (λ d. (entry p.vector d.node + 2 ≤ d.counter) × (d.counter ≤ MAX)) (λ d. within_if (entry p.vector d.node + 2) MAX d.counter) p.cloud cloud.1;
      };
      in_order = rising_if place_cmp p.rows rows.0;
      covered = All-from_recursion (λ (r : Row). in_parts p.vector p.cloud r.dot ≡ true) p.rows (each_if (λ (r : Row). in_parts p.vector p.cloud r.dot) (λ r. in_parts p.vector p.cloud r.dot ≡ true) (λ r e. e) p.rows rows.1);
    }

pub if_canonical : (p : TableParts) → AreCanonical p → are_canonical p ≡ true
if_canonical p is =
    let c = is.context in
    and_from (is_canonical_vector p.vector) (is_canonical_cloud p.vector p.cloud && has_canonical_rows p)
    (and_from (rises text_cmp (keys_of p.vector)) (list_all (λ (e : Bytes × ℕ). is_within 1 MAX e.1) p.vector) (if_rising text_cmp (keys_of p.vector) c.by_name) (if_each (λ (e : Bytes × ℕ). is_within 1 MAX e.1) (λ e. (1 ≤ e.1) × (e.1 ≤ MAX)) (λ e. if_within 1 MAX e.1) p.vector c.entries))
    (and_from (is_canonical_cloud p.vector p.cloud) (has_canonical_rows p)
    (and_from (rises dot_cmp p.cloud) (list_all (λ (d : Dot). is_within (entry p.vector d.node + 2) MAX d.counter) p.cloud) (if_rising dot_cmp p.cloud c.in_order) (if_each (λ (d : Dot). is_within (entry p.vector d.node + 2) MAX d.counter) (λ d. (entry p.vector d.node + 2 ≤ d.counter) × (d.counter ≤ MAX)) (λ d. if_within (entry p.vector d.node + 2) MAX d.counter) p.cloud c.apart))
    (and_from (rises place_cmp p.rows) (list_all (λ (r : Row). in_parts p.vector p.cloud r.dot) p.rows) (if_rising place_cmp p.rows is.in_order) (if_each (λ (r : Row). in_parts p.vector p.cloud r.dot) (λ r. in_parts p.vector p.cloud r.dot ≡ true) (λ r e. e) p.rows (recursion_from_All (λ (r : Row). in_parts p.vector p.cloud r.dot ≡ true) p.rows is.covered))))

pub sound_if : (d : Draft) → is_sound d ≡ true → IsSound d
sound_if (ack from to n) e = tt
sound_if (push from to p) e = canonical_if p e
sound_if (delta from to n p) e = canonical_if p e
sound_if (image node boot count p) e = canonical_if p e

pub if_sound : (d : Draft) → IsSound d → is_sound d ≡ true
if_sound (ack from to n) is = refl
if_sound (push from to p) is = if_canonical p is
if_sound (delta from to n p) is = if_canonical p is
if_sound (image node boot count p) is = if_canonical p is
