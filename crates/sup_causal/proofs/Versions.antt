-- Version vectors: an entry written at its place or put in at a gap, and the dots that a vector has.
use Rattle.std.proofs.Common.{◌≡◌, ℕ, suc, zero, ◌<◌, ◌≤◌, Bool, true, false, ◌||◌, ◌&&◌, cond, leb, List, [], ◌∷◌, length, get_or, set, Option, Some, unwrap_or, refl, sym, ap, ◌∙◌, subst, arith, inl, inr}
use Rattle.std.specs.declared.cmp.Ordering.TheVariants.{Less, Equal, Greater}
use Rattle.std.specs.Ordering.{is_eq, eq_by_cmp}
use Rattle.std.specs.Map.{lookup, keys_of}
use Rattle.std.specs.List.{AllByRecursion, insert}
use Rattle.std.proofs.lemmas.Bool.Decides.{nat_tests}
use Rattle.std.proofs.lemmas.Cmp.{nat_list_cmp_total, eq_by_cmp_equiv, on_total}
use Rattle.std.proofs.lemmas.Map.{lookup-insert, NonePasses}
use Rattle.std.proofs.lemmas.Map.Lookups.{exact_bytes}
use Rattle.std.proofs.lemmas.List.Elements.{recursion_from_All}
use Rattle.std.proofs.lemmas.Bool.{cases_lt}
use Rattle.std.specs.List.Sorted.{IsStrictlySortedBy}
use Rattle.sup_specs.specs.Values.{text_cmp}
use Rattle.sup_specs.specs.declared.limits.TheConstants.{MAX}
use Rattle.sup_causal.specs.declared.dot.Dot.{Dot}
use Rattle.sup_causal.specs.Cut.{entry, in_run}
use Rattle.sup_causal.proofs.Rising.{rising_insert, each_insert}
use Rattle.sup_causal.proofs.Sorted.{pairs_rise, keys_rise_from_pairs}
use Rattle.sup_causal.proofs.DotLemmas.{equal_from_is_eq}
use Rattle.sup_causal.specs.Parts.{IsVersions, in_vector}
use Rattle.sup_causal.proofs.CutLemmas.{below_place}

unwrapped : (b : Bool) (n : ℕ) (o : Option ℕ) → unwrap_or (cond b (Some n) o) 0 ≡ cond b n (unwrap_or o 0)
unwrapped true n o = refl
unwrapped false n o = refl

entry_of : (e : List ℕ × ℕ) (es : List (List ℕ × ℕ)) (q : List ℕ) → entry (e ∷ es) q ≡ cond (eq_by_cmp text_cmp q e.0) e.1 (entry es q)
entry_of e es q = unwrapped (eq_by_cmp text_cmp q e.0) e.1 (lookup (eq_by_cmp text_cmp q) es)

turned : (a b : List ℕ) → eq_by_cmp text_cmp a b ≡ eq_by_cmp text_cmp b a
turned a b = (eq_by_cmp_equiv nat_list_cmp_total).symm a b

-- ---- an entry written at its place

set_first : (e : List ℕ × ℕ) (es : List (List ℕ × ℕ)) (node q : List ℕ) (n : ℕ) → e.0 ≡ node → entry ((node, n) ∷ es) q ≡ cond (eq_by_cmp text_cmp node q) n (entry (e ∷ es) q)
set_first e es node q n is = at (eq_by_cmp text_cmp q node) refl
  where
    at : (b : Bool) → eq_by_cmp text_cmp q node ≡ b → entry ((node, n) ∷ es) q ≡ cond (eq_by_cmp text_cmp node q) n (entry (e ∷ es) q)
    at true h = entry_of (node, n) es q ∙ ap (λ b. cond b n (entry es q)) h ∙ ap (λ b. cond b n (entry (e ∷ es) q)) (sym (turned node q ∙ h))
    at false h =
        entry_of (node, n) es q ∙ ap (λ b. cond b n (entry es q)) h
        ∙ sym (entry_of e es q ∙ ap (λ b. cond b e.1 (entry es q)) (ap (eq_by_cmp text_cmp q) is ∙ h))
        ∙ ap (λ b. cond b n (entry (e ∷ es) q)) (sym (turned node q ∙ h))

set_later : (e : List ℕ × ℕ) (es fs : List (List ℕ × ℕ)) (node q : List ℕ) (n : ℕ) → text_cmp e.0 node ≡ Less → entry fs q ≡ cond (eq_by_cmp text_cmp node q) n (entry es q) → entry (e ∷ fs) q ≡ cond (eq_by_cmp text_cmp node q) n (entry (e ∷ es) q)
set_later e es fs node q n less further = at (eq_by_cmp text_cmp q e.0) refl
  where
    at : (b : Bool) → eq_by_cmp text_cmp q e.0 ≡ b → entry (e ∷ fs) q ≡ cond (eq_by_cmp text_cmp node q) n (entry (e ∷ es) q)
    at true h =
        let is : q ≡ e.0 = exact_bytes q e.0 (equal_from_is_eq _ h) in
        let apart : eq_by_cmp text_cmp node q ≡ false = ap (eq_by_cmp text_cmp node) is ∙ turned node e.0 ∙ ap is_eq less in
        entry_of e fs q ∙ ap (λ b. cond b e.1 (entry fs q)) h ∙ sym (entry_of e es q ∙ ap (λ b. cond b e.1 (entry es q)) h) ∙ ap (λ b. cond b n (entry (e ∷ es) q)) (sym apart)
    at false h =
        entry_of e fs q ∙ ap (λ b. cond b e.1 (entry fs q)) h ∙ further
        ∙ ap (λ m. cond (eq_by_cmp text_cmp node q) n m) (sym (entry_of e es q ∙ ap (λ b. cond b e.1 (entry es q)) h))

pub entry_set : (es : List (List ℕ × ℕ)) → IsStrictlySortedBy (λ (a b : List ℕ × ℕ). text_cmp a.0 b.0) es → (i : ℕ) (node : List ℕ) (n : ℕ) (d : List ℕ × ℕ) → i < length es → text_cmp (get_or es i d).0 node ≡ Equal
    → (q : List ℕ) → entry (set es i (node, n)) q ≡ cond (eq_by_cmp text_cmp node q) n (entry es q)
unfolding IsStrictlySortedBy
entry_set [] s i node n d within tie q = absurd (omega (arith, within))
entry_set (e ∷ es) s zero node n d within tie q = set_first e es node q n (exact_bytes e.0 node tie)
entry_set (e ∷ es) s (suc i) node n d within tie q =
    set_later e es (set es i (node, n)) node q n (below_place e es s i node d (omega (arith, within)) tie) (entry_set es s.1 i node n d (omega (arith, within)) tie q)

keys_set : (es : List (List ℕ × ℕ)) (i : ℕ) (node : List ℕ) (n : ℕ) (d : List ℕ × ℕ) → i < length es → text_cmp (get_or es i d).0 node ≡ Equal → keys_of (set es i (node, n)) ≡ keys_of es
keys_set [] i node n d within tie = absurd (omega (arith, within))
keys_set (e ∷ es) zero node n d within tie = ap (λ k. k ∷ keys_of es) (sym (exact_bytes e.0 node tie))
keys_set (e ∷ es) (suc i) node n d within tie = ap (λ ks. e.0 ∷ ks) (keys_set es i node n d (omega (arith, within)) tie)

each_set : {K : Type 0} (P : K → Type 0) (xs : List K) (i : ℕ) (y : K) → AllByRecursion P xs → P y → AllByRecursion P (set xs i y)
each_set P [] i y all this = tt
each_set P (x ∷ xs) zero y all this = (this, all.1)
each_set P (x ∷ xs) (suc i) y all this = (all.0, each_set P xs i y all.1 this)

pub versions_set : (es : List (List ℕ × ℕ)) → IsVersions es → (i : ℕ) (node : List ℕ) (n : ℕ) (d : List ℕ × ℕ) → i < length es → text_cmp (get_or es i d).0 node ≡ Equal → 1 ≤ n → n ≤ MAX → IsVersions (set es i (node, n))
versions_set es versions i node n d within tie low high = record {
  by_name = subst (IsStrictlySortedBy text_cmp) (sym (keys_set es i node n d within tie)) versions.by_name;
  entries = each_set (λ (e : List ℕ × ℕ). (1 ≤ e.1) × (e.1 ≤ MAX)) es i (node, n) versions.entries (low, high);
}

-- ---- an entry put in at its gap
module _ (es : List (List ℕ × ℕ)) (i : ℕ) (node : List ℕ) (n : ℕ)
    (below : (k : ℕ) (d : List ℕ × ℕ) → k < i → text_cmp (get_or es k d).0 node ≡ Less) (above : (k : ℕ) (d : List ℕ × ℕ) → i ≤ k → k < length es → text_cmp (get_or es k d).0 node ≡ Greater) where
  none_there : NonePasses (eq_by_cmp text_cmp node) es
  none_there = recursion_from_All (λ (e : List ℕ × ℕ). eq_by_cmp text_cmp node e.0 ≡ false) es (λ k d within. turned node (get_or es k d).0 ∙ elim (cases_lt k i) [
    | inl lt ↦ ap is_eq (below k d lt)
    | inr ge ↦ ap is_eq (above k d ge within)
  ])

  pub entry_insert : (q : List ℕ) → entry (insert es i (node, n)) q ≡ cond (eq_by_cmp text_cmp node q) n (entry es q)
  entry_insert q =
      ap (λ o. unwrap_or o 0) (lookup-insert (eq_by_cmp_equiv nat_list_cmp_total) node n q es i none_there)
      ∙ unwrapped (eq_by_cmp text_cmp node q) n (lookup (eq_by_cmp text_cmp q) es)

  pub versions_insert : IsVersions es → 1 ≤ n → n ≤ MAX → IsVersions (insert es i (node, n))
  versions_insert versions low high = record {
    by_name = keys_rise_from_pairs text_cmp (insert es i (node, n)) (rising_insert (on_total (λ (e : List ℕ × ℕ). e.0) nat_list_cmp_total) es i (node, n) (pairs_rise text_cmp es versions.by_name) below above);
    entries = each_insert (λ (e : List ℕ × ℕ). (1 ≤ e.1) × (e.1 ≤ MAX)) es i (node, n) versions.entries (low, high);
  }

-- ---- what entries are at most
pub entry_most : (es : List (List ℕ × ℕ)) → AllByRecursion (λ e. (1 ≤ e.1) × (e.1 ≤ MAX)) es → (q : List ℕ) → entry es q ≤ MAX
entry_most [] all q = omega arith
entry_most (e ∷ es) all q = subst (λ n. n ≤ MAX) (sym (entry_of e es q)) (at (eq_by_cmp text_cmp q e.0) (entry_most es all.1 q))
  where
    at : (b : Bool) → entry es q ≤ MAX → cond b e.1 (entry es q) ≤ MAX
    at true rest = all.0.1
    at false rest = rest

-- ---- the dots of a vector with an entry raised
raised_dots : (c n old : ℕ) → old ≤ n → (leb 1 c && leb c n) ≡ ((leb 1 c && leb c old) || (leb 1 c && leb c n))
raised_dots c n old le = grind (arith, nat_tests, le)

not_raised_dots : (c n old : ℕ) → n ≤ old → (leb 1 c && leb c old) ≡ ((leb 1 c && leb c old) || (leb 1 c && leb c n))
not_raised_dots c n old le = grind (arith, nat_tests, le)

or-none : (b : Bool) → b ≡ (b || false)
or-none true = refl
or-none false = refl

-- raised to at least what it was, it has the dots of the new run too
pub raised_has : (es fs : List (List ℕ × ℕ)) (node : List ℕ) (n : ℕ) → entry es node ≤ n → ((q : List ℕ) → entry fs q ≡ cond (eq_by_cmp text_cmp node q) n (entry es q)) → (d : Dot) → in_vector fs d ≡ (in_vector es d || in_run node n d)
raised_has es fs node n le puts d = at (eq_by_cmp text_cmp node d.node) refl
  where
    at : (b : Bool) → eq_by_cmp text_cmp node d.node ≡ b → in_vector fs d ≡ (in_vector es d || in_run node n d)
    at true h =
        let is : node ≡ d.node = exact_bytes node d.node (equal_from_is_eq _ h) in
        ap (λ m. leb 1 d.counter && leb d.counter m) (puts d.node ∙ ap (λ b. cond b n (entry es d.node)) h)
        ∙ raised_dots d.counter n (entry es d.node) (subst (λ m. entry es m ≤ n) is le)
        ∙ ap (λ b. in_vector es d || (b && (leb 1 d.counter && leb d.counter n))) (sym (turned d.node node ∙ h))
    at false h =
        ap (λ m. leb 1 d.counter && leb d.counter m) (puts d.node ∙ ap (λ b. cond b n (entry es d.node)) h)
        ∙ or-none (in_vector es d) ∙ ap (λ b. in_vector es d || (b && (leb 1 d.counter && leb d.counter n))) (sym (turned d.node node ∙ h))

-- an entry that is as high has them already
pub run_there : (es : List (List ℕ × ℕ)) (node : List ℕ) (n : ℕ) → n ≤ entry es node → (d : Dot) → in_vector es d ≡ (in_vector es d || in_run node n d)
run_there es node n le d = at (eq_by_cmp text_cmp d.node node) refl
  where
    at : (b : Bool) → eq_by_cmp text_cmp d.node node ≡ b → in_vector es d ≡ (in_vector es d || (b && (leb 1 d.counter && leb d.counter n)))
    at true h = not_raised_dots d.counter n (entry es d.node) (subst (λ m. n ≤ entry es m) (sym (exact_bytes d.node node (equal_from_is_eq _ h))) le)
    at false h = or-none (in_vector es d)

-- entries that are each at most another vector's
pub entries_within : (others es : List (List ℕ × ℕ)) → AllByRecursion (λ e. e.1 ≤ entry others e.0) es → (q : List ℕ) → entry es q ≤ entry others q
entries_within others [] all q = omega arith
entries_within others (e ∷ es) all q = subst (λ n. n ≤ entry others q) (sym (entry_of e es q)) (at (eq_by_cmp text_cmp q e.0) refl (entries_within others es all.1 q))
  where
    at : (b : Bool) → eq_by_cmp text_cmp q e.0 ≡ b → entry es q ≤ entry others q → cond b e.1 (entry es q) ≤ entry others q
    at true h rest = subst (λ k. e.1 ≤ entry others k) (sym (exact_bytes q e.0 (equal_from_is_eq _ h))) all.0
    at false h rest = rest
