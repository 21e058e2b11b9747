-- How many dots parts have: each stands once among those of the runs and of the cloud.
use Rattle.std.proofs.Common.{◌≡◌, ℕ, suc, zero, ◌+◌, ◌≤◌, Bool, true, false, ◌||◌, ◌&&◌, leb, List, [], ◌∷◌, ◌++◌, length, refl, sym, ap, ◌∙◌, arith}
use Rattle.std.specs.declared.cmp.Ordering.{Ordering}
use Rattle.std.specs.declared.cmp.Ordering.TheVariants.{Less, Equal, Greater}
use Rattle.std.specs.Ordering.{is_eq, eq_by_cmp}
use Rattle.std.specs.FinMap.Entries.{by_order}
use Rattle.std.specs.List.{AllByRecursion}
use Rattle.std.proofs.lemmas.Bool.{or_left, or_right, and_parts, leb-true, false_from_ne_true}
use Rattle.std.proofs.lemmas.Bool.Decides.{nat_tests}
use Rattle.std.proofs.lemmas.List.{length-append}
use Rattle.std.proofs.lemmas.List.Folds.{list_any-append}
use mathlib.Core.Bool.{false≢true}
use Rattle.std.specs.List.Sorted.{IsStrictlySortedBy}
use Rattle.sup_specs.specs.Rising.{among, put_in, rising}
use Rattle.sup_specs.proofs.RisingLaws.{among-rising}
use Rattle.sup_specs.specs.Values.{text_cmp}
use Rattle.sup_specs.specs.declared.limits.TheConstants.{MAX}
use Rattle.sup_causal.specs.declared.dot.Dot.{Dot}
use Rattle.sup_causal.specs.Dots.{dot_cmp, dot_eq}
use Rattle.sup_causal.specs.DotLaws.{dot_total}
use Rattle.sup_causal.specs.Cut.{entry, IsCanonical}
use Rattle.sup_causal.specs.Parts.{run_dots, runs_dots, dots_of, total_of}
use Rattle.sup_causal.proofs.Sorted.{pairs_rise}
use Rattle.sup_causal.proofs.Rising.{greater_from_less}
use Rattle.sup_causal.proofs.Union.{each_weaker}
use Rattle.sup_causal.proofs.CutLemmas.{entry_later, in_runs_is, uncounted}
use Rattle.sup_causal.proofs.DotLemmas.{each_has, has_none, dot_eq-refl, equal_from_is_eq}
use Rattle.sup_causal.proofs.Views.{has_run, has_runs}

-- each dot of a list stands in it once
abbrev Once : List Dot → Type 0
Once [] = Unit {0}
Once (x ∷ xs) = (among dot_cmp xs x ≡ false) × Once xs

-- ---- a list of which each dot stands once is as long when it is put in order
later_none : (a b : Bool) → (a || b) ≡ false → b ≡ false
later_none true b none = absurd (false≢true (sym none))
later_none false b none = none

length_put_in : (x : Dot) (ys : List Dot) → among dot_cmp ys x ≡ false → length (put_in dot_cmp x ys) ≡ suc (length ys)
length_put_in x [] none = refl
length_put_in x (y ∷ ys) none = at (dot_cmp x y) refl (length_put_in x ys (later_none (dot_eq x y) (among dot_cmp ys x) none))
  where
    at : (o : Ordering) → dot_cmp x y ≡ o → length (put_in dot_cmp x ys) ≡ suc (length ys) → length (by_order o (x ∷ y ∷ ys) (y ∷ ys) (y ∷ put_in dot_cmp x ys)) ≡ suc (suc (length ys))
    at Less e later = refl
    at Equal e later = absurd (false≢true (sym none ∙ or_left (dot_eq x y) (among dot_cmp ys x) (ap is_eq e)))
    at Greater e later = ap suc later

length_rising : (xs : List Dot) → Once xs → length (rising dot_cmp xs) ≡ length xs
length_rising [] once = refl
length_rising (x ∷ xs) once =
    length_put_in x (rising dot_cmp xs) (among-rising dot_cmp dot_total xs x ∙ once.0)
    ∙ ap suc (length_rising xs once.1)

-- ---- each dot of canonical parts stands once
once_append : (xs ys : List Dot) → Once xs → Once ys → ((d : Dot) → among dot_cmp xs d ≡ true → among dot_cmp ys d ≡ false) → Once (xs ++ ys)
once_append [] ys first second apart = second
once_append (x ∷ xs) ys first second apart = (
  list_any-append (dot_eq x) xs ys ∙ (λ k. first.0 k || apart x (or_left (dot_eq x x) (among dot_cmp xs x) (dot_eq-refl x)) k),
  once_append xs ys first.1 second (λ d there. apart d (or_right (dot_eq d x) (among dot_cmp xs d) there)),
)

past_run : (b : Bool) (n : ℕ) → (b && (leb 1 (suc n) && leb (suc n) n)) ≡ false
past_run true n = grind (arith, nat_tests)
past_run false n = refl

once_run : (node : List ℕ) (n : ℕ) → Once (run_dots node n)
once_run node zero = tt
once_run node (suc n) = (has_run node n (record { counter = suc n; node = node }) ∙ past_run (eq_by_cmp text_cmp node node) n, once_run node n)

once_runs : (v : List (List ℕ × ℕ)) → IsStrictlySortedBy (λ (a b : List ℕ × ℕ). text_cmp a.0 b.0) v → Once (runs_dots v)
unfolding IsStrictlySortedBy
once_runs [] s = tt
once_runs (e ∷ es) s = once_append (run_dots e.0 e.1) (runs_dots es) (once_run e.0 e.1) (once_runs es s.1) (λ d there.
    let own = and_parts (eq_by_cmp text_cmp d.node e.0) (leb 1 d.counter && leb d.counter e.1) (sym (has_run e.0 e.1 d) ∙ there) in
    has_runs es d
    ∙ in_runs_is es s.1 d
    ∙ ap (λ n. leb 1 d.counter && leb d.counter n) (entry_later e es s d.node (equal_from_is_eq _ own.0))
    ∙ uncounted d.counter)

-- a dot below each of a list is not in it
none_above : (x : Dot) (ys : List Dot) → AllByRecursion (λ y. dot_cmp x y ≡ Less) ys → among dot_cmp ys x ≡ false
none_above x ys all = has_none ys x (each_weaker (λ y. dot_cmp x y ≡ Less) (λ y. is_eq (dot_cmp y x) ≡ false) (λ y h. ap is_eq (greater_from_less dot_total x y h)) ys all)

once_rising : (c : List Dot) → IsStrictlySortedBy dot_cmp c → Once c
unfolding IsStrictlySortedBy
once_rising [] s = tt
once_rising (x ∷ xs) s = (none_above x xs s.0, once_rising xs s.1)

apart : (v : List (List ℕ × ℕ)) (c : List Dot) → IsCanonical v c → (d : Dot) → among dot_cmp (runs_dots v) d ≡ true → among dot_cmp c d ≡ false
apart v c canonical d there = false_from_ne_true _ (λ beyond.
    let far = each_has (λ e. (entry v e.node + 2 ≤ e.counter) × (e.counter ≤ MAX)) c canonical.apart d beyond in
    let run = and_parts (leb 1 d.counter) (leb d.counter (entry v d.node)) (sym (has_runs v d ∙ in_runs_is v (pairs_rise text_cmp v canonical.by_name) d) ∙ there) in
    let high : d.counter ≤ entry v d.node = leb-true _ _ run.1 in
    let low : entry v d.node + 2 ≤ d.counter = far.0 in
    omega (arith, high, low))

-- ---- so they are as many as the entries say, and those of the cloud
length_run : (node : List ℕ) (n : ℕ) → length (run_dots node n) ≡ n
length_run node zero = refl
length_run node (suc n) = ap suc (length_run node n)

length_runs : (v : List (List ℕ × ℕ)) → length (runs_dots v) ≡ total_of v
length_runs [] = refl
length_runs (e ∷ es) = length-append (run_dots e.0 e.1) (runs_dots es) ∙ (λ k. length_run e.0 e.1 k + length_runs es k)

pub length_dots : (v : List (List ℕ × ℕ)) (c : List Dot) → IsCanonical v c → length (dots_of v c) ≡ total_of v + length c
unfolding dots_of
length_dots v c canonical =
    length_rising (runs_dots v ++ c) (once_append (runs_dots v) c (once_runs v (pairs_rise text_cmp v canonical.by_name)) (once_rising c canonical.in_order) (apart v c canonical))
    ∙ length-append (runs_dots v) c
    ∙ ap (λ n. n + length c) (length_runs v)
