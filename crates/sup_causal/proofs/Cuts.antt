-- Canonical parts with one dot more: one that goes on with its run, and one that joins the cloud.
use Rattle.std.proofs.Common.{◌≡◌, ℕ, ◌+◌, ◌<◌, ◌≤◌, Bool, true, false, ◌||◌, ◌&&◌, cond, leb, eqb, List, [], ◌∷◌, ◌++◌, length, get_or, take, length-take, refl, sym, ap, ◌∙◌, subst, arith, inl, inr}
use Rattle.std.specs.Cmp.Lexicographic.{texts_ties}
use Rattle.std.specs.declared.cmp.Ordering.TheVariants.{Less}
use Rattle.std.specs.Ordering.{eq_by_cmp}
use Rattle.std.specs.List.{AllByRecursion}
use Rattle.std.proofs.lemmas.Bool.{or_left, or_right, and_from, le-leb, lt-leb, cases_order}
use Rattle.std.proofs.lemmas.Bool.Decides.{nat_tests}
use Rattle.std.proofs.lemmas.List.{take_more, get_or_read, get_or-take}
use Rattle.std.proofs.lemmas.List.Folds.{list_any-append}
use Rattle.std.proofs.lemmas.Map.Lookups.{exact_bytes}
use Rattle.std.proofs.Math.Bool.{or-false, and-true}
use mathlib.Core.Bool.{false≢true}
use Rattle.std.specs.List.Sorted.{IsStrictlySortedBy}
use Rattle.sup_specs.specs.Rising.{among}
use Rattle.sup_specs.specs.Values.{text_cmp}
use Rattle.sup_specs.specs.declared.limits.TheConstants.{MAX}
use Rattle.sup_causal.specs.declared.dot.Dot.{Dot}
use Rattle.sup_causal.specs.Dots.{dot_cmp, dot_eq}
use Rattle.sup_causal.specs.DotLaws.{dot_total}
use Rattle.sup_causal.specs.Cut.{entry, IsCanonical, in_parts}
use Rattle.sup_causal.proofs.Rising.{rising_at}
use Rattle.sup_causal.proofs.Sorted.{dots_tie}
use Rattle.sup_causal.proofs.CutLemmas.{each_push}
use Rattle.sup_causal.proofs.DotLemmas.{dot_eq-true, among_first, or_assoc, place_of, each_has, each_from_has, equal_from_is_eq}
use Rattle.sup_causal.specs.Parts.{IsVersions, in_vector}

-- ---- a dot that is there
or_again : (b : Bool) (test : Bool) → (b ≡ true → test ≡ true) → test ≡ (test || b)
or_again true test there = there refl ∙ sym (or_left test true (there refl))
or_again false test there = sym (or-false test)

pub parts_again : (v : List (List ℕ × ℕ)) (c : List Dot) (x : Dot) → in_parts v c x ≡ true → (d : Dot) → in_parts v c d ≡ (in_parts v c d || dot_eq x d)
parts_again v c x there d = or_again (dot_eq x d) (in_parts v c d) (λ same. ap (in_parts v c) (sym (dot_eq-true x d same)) ∙ there)

pub in_its_run : (v : List (List ℕ × ℕ)) (c : List Dot) (x : Dot) → 1 ≤ x.counter → x.counter ≤ entry v x.node → in_parts v c x ≡ true
in_its_run v c x low high = or_left _ _ (and_from _ _ (le-leb _ _ low) (le-leb _ _ high))

-- ---- a dot that goes on with its run
next_counted : (old n c : ℕ) → n ≡ old + 1 → (leb 1 c && leb c n) ≡ ((leb 1 c && leb c old) || eqb n c)
next_counted old n c next = grind (arith, nat_tests, next)

pub dot_parts : (x d : Dot) → dot_eq x d ≡ (eqb x.counter d.counter && eq_by_cmp text_cmp x.node d.node)
dot_parts x d = sym (dots_tie x d) ∙ ap (λ b. eqb x.counter d.counter && b) (texts_ties x.node d.node)

pub and-false : (b : Bool) → (b && false) ≡ false
and-false true = refl
and-false false = refl

-- ---- a dot that is not there
pub beyond_its_run : (v : List (List ℕ × ℕ)) (c : List Dot) (x : Dot) → entry v x.node < x.counter → among dot_cmp c x ≡ false → in_parts v c x ≡ false
beyond_its_run v c x above none =
    ap (λ b. (leb 1 x.counter && b) || among dot_cmp c x) (lt-leb x.counter (entry v x.node) above)
    ∙ ap (λ b. b || among dot_cmp c x) (and-false (leb 1 x.counter))
    ∙ none

-- the cloud lacks what goes on with its run
pub cloud_lacks : (v : List (List ℕ × ℕ)) (c : List Dot) (x : Dot) → IsCanonical v c → x.counter < entry v x.node + 2 → among dot_cmp c x ≡ false
cloud_lacks v c x canonical near = at (among dot_cmp c x) refl
  where
    at : (b : Bool) → among dot_cmp c x ≡ b → b ≡ false
    at true there = let far = each_has (λ d. (entry v d.node + 2 ≤ d.counter) × (d.counter ≤ MAX)) c canonical.apart x there in absurd (omega (arith, far.0, near))
    at false none = refl

pub next_is_new : (v : List (List ℕ × ℕ)) (c : List Dot) (x : Dot) → IsCanonical v c → entry v x.node < x.counter → x.counter < entry v x.node + 2 → in_parts v c x ≡ false
next_is_new v c x canonical above near = beyond_its_run v c x above (cloud_lacks v c x canonical near)

module _ (v w : List (List ℕ × ℕ)) (c : List Dot) (x : Dot) (next : x.counter ≡ entry v x.node + 1) (puts : (q : List ℕ) → entry w q ≡ cond (eq_by_cmp text_cmp x.node q) x.counter (entry v q)) where
  pub raised_vector : (d : Dot) → in_vector w d ≡ (in_vector v d || dot_eq x d)
  raised_vector d = at (eq_by_cmp text_cmp x.node d.node) refl
    where
      at : (b : Bool) → eq_by_cmp text_cmp x.node d.node ≡ b → in_vector w d ≡ (in_vector v d || dot_eq x d)
      at true h =
          let is : x.node ≡ d.node = exact_bytes x.node d.node (equal_from_is_eq _ h) in
          ap (λ m. leb 1 d.counter && leb d.counter m) (puts d.node ∙ ap (λ b. cond b x.counter (entry v d.node)) h)
          ∙ next_counted (entry v d.node) x.counter d.counter (next ∙ ap (λ m. entry v m + 1) is)
          ∙ ap (λ b. in_vector v d || b) (sym (dot_parts x d ∙ ap (λ b. eqb x.counter d.counter && b) h ∙ and-true (eqb x.counter d.counter)))
      at false h =
          ap (λ m. leb 1 d.counter && leb d.counter m) (puts d.node ∙ ap (λ b. cond b x.counter (entry v d.node)) h)
          ∙ sym (or-false (in_vector v d))
          ∙ ap (λ b. in_vector v d || b) (sym (dot_parts x d ∙ ap (λ b. eqb x.counter d.counter && b) h ∙ and-false (eqb x.counter d.counter)))

  pub or_between : (a b e : Bool) → ((a || e) || b) ≡ ((a || b) || e)
  or_between true b e = refl
  or_between false true true = refl
  or_between false true false = refl
  or_between false false e = or-false e

  pub raised_parts : (d : Dot) → in_parts w c d ≡ (in_parts v c d || dot_eq x d)
  raised_parts d = ap (λ b. b || among dot_cmp c d) (raised_vector d) ∙ or_between (in_vector v d) (among dot_cmp c d) (dot_eq x d)

  -- where the cloud lacks the dot after it
  pub raised_canonical : IsCanonical v c → IsVersions w → among dot_cmp c (record { counter = x.counter + 1; node = x.node }) ≡ false → IsCanonical w c
  raised_canonical canonical versions none = record {
    by_name = versions.by_name;
    entries = versions.entries;
    in_order = canonical.in_order;
    apart = each_from_has (λ d. (entry w d.node + 2 ≤ d.counter) × (d.counter ≤ MAX)) c (λ d there.
        let far = each_has (λ e. (entry v e.node + 2 ≤ e.counter) × (e.counter ≤ MAX)) c canonical.apart d there in
        (at d there far.0 (eq_by_cmp text_cmp x.node d.node) refl, far.1));
  }
    where
      at : (d : Dot) → among dot_cmp c d ≡ true → entry v d.node + 2 ≤ d.counter → (b : Bool) → eq_by_cmp text_cmp x.node d.node ≡ b → entry w d.node + 2 ≤ d.counter
      at d there far true h =
          let is : x.node ≡ d.node = exact_bytes x.node d.node (equal_from_is_eq _ h) in
          let raised : entry w d.node ≡ x.counter = puts d.node ∙ ap (λ b. cond b x.counter (entry v d.node)) h in
          let old : x.counter ≡ entry v d.node + 1 = next ∙ ap (λ m. entry v m + 1) is in
          elim (cases_order (x.counter + 1) d.counter) [
            | inl same ↦ absurd (false≢true (sym none ∙ ap (among dot_cmp c) (λ k. record { counter = same k; node = is k }) ∙ there))
            | inr apart ↦ elim apart [ inl below ↦ omega (arith, below, raised) | inr above ↦ absurd (omega (arith, above, far, old)) ]
          ]
      at d there far false h =
          let kept : entry w d.node ≡ entry v d.node = puts d.node ∙ ap (λ b. cond b x.counter (entry v d.node)) h in
          omega (arith, kept, far)

-- ---- no dot yet
pub no_versions : IsVersions []
unfolding IsStrictlySortedBy
no_versions = record { by_name = tt; entries = tt }

pub without_cloud : (v : List (List ℕ × ℕ)) → IsVersions v → IsCanonical v []
unfolding IsStrictlySortedBy
without_cloud v versions = record { by_name = versions.by_name; entries = versions.entries; in_order = tt; apart = tt }

-- ---- a dot that joins the cloud
module _ (v : List (List ℕ × ℕ)) (c e : List Dot) (x : Dot) (more : (d : Dot) → among dot_cmp e d ≡ (among dot_cmp c d || dot_eq x d)) where
  pub cloud_parts : (d : Dot) → in_parts v e d ≡ (in_parts v c d || dot_eq x d)
  cloud_parts d =
      ap (λ b. in_vector v d || b) (more d)
      ∙ sym (or_assoc (in_vector v d) (among dot_cmp c d) (dot_eq x d))

  pub cloud_canonical : IsCanonical v c → IsStrictlySortedBy dot_cmp e → entry v x.node + 2 ≤ x.counter → x.counter ≤ MAX → IsCanonical v e
  unfolding IsStrictlySortedBy
  cloud_canonical canonical rises far high = record {
    by_name = canonical.by_name;
    entries = canonical.entries;
    in_order = rises;
    apart = each_from_has (λ d. (entry v d.node + 2 ≤ d.counter) × (d.counter ≤ MAX)) e (λ d there. at d (dot_eq x d) refl (sym (more d) ∙ there));
  }
    where
      at : (d : Dot) (b : Bool) → dot_eq x d ≡ b → (among dot_cmp c d || b) ≡ true → (entry v d.node + 2 ≤ d.counter) × (d.counter ≤ MAX)
      at d true same there = subst (λ (y : Dot). (entry v y.node + 2 ≤ y.counter) × (y.counter ≤ MAX)) (dot_eq-true x d same) (far, high)
      at d false other there = each_has (λ y. (entry v y.node + 2 ≤ y.counter) × (y.counter ≤ MAX)) c canonical.apart d (sym (or-false (among dot_cmp c d)) ∙ there)

-- ---- the last of rising dots
pub rising_push : (xs : List Dot) (x : Dot) → IsStrictlySortedBy dot_cmp xs → AllByRecursion (λ y. dot_cmp y x ≡ Less) xs → IsStrictlySortedBy dot_cmp (xs ++ x ∷ [])
unfolding IsStrictlySortedBy
rising_push [] x rises below = (tt, tt)
rising_push (y ∷ ys) x rises below = (each_push (λ z. dot_cmp y z ≡ Less) ys x rises.0 below.0, rising_push ys x rises.1 below.1)

pub has_push : (xs : List Dot) (x d : Dot) → among dot_cmp (xs ++ x ∷ []) d ≡ (among dot_cmp xs d || dot_eq x d)
has_push xs x d = list_any-append (dot_eq d) xs (x ∷ []) ∙ ap (λ b. among dot_cmp xs d || b) (among_first x [] d ∙ or-false (dot_eq x d))

module _ (xs : List Dot) (i : ℕ) (x : Dot) (within : i < length xs) (at : x ≡ get_or xs i x) where
  pub has_more : (d : Dot) → among dot_cmp (take (i + 1) xs) d ≡ (among dot_cmp (take i xs) d || dot_eq x d)
  has_more d = ap (λ ys. among dot_cmp ys d) (take_more xs i x within ∙ ap (λ y. take i xs ++ y ∷ []) (sym at)) ∙ has_push (take i xs) x d

  -- all before it are below it
  pub before_less : IsStrictlySortedBy dot_cmp xs → (d : Dot) → among dot_cmp (take i xs) d ≡ true → dot_cmp d x ≡ Less
  unfolding IsStrictlySortedBy
  before_less rises d there =
      let place : (k : ℕ) × (k < length (take i xs)) × (get_or (take i xs) k d ≡ d) = place_of (take i xs) d there in
      let before : place.0 < i = omega (arith, place.1, length-take i xs) in
      let read : get_or xs place.0 d ≡ d = sym (get_or-take i xs place.0 d before) ∙ place.2 in
      let less : dot_cmp (get_or xs place.0 d) (get_or xs i d) ≡ Less = rising_at dot_total xs rises place.0 i d before within in
      subst (λ y. dot_cmp d y ≡ Less) (sym (get_or_read xs i x within at d)) (subst (λ y. dot_cmp y (get_or xs i d) ≡ Less) read less)

pub or_turn : (a b : Bool) → (a || b) ≡ (b || a)
or_turn true b = sym (or_right b true refl)
or_turn false b = sym (or-false b)
