-- Laws of runs and of entries.
use Rattle.std.proofs.Common.{◌≡◌, ℕ, suc, zero, ◌+◌, ◌<◌, Bool, true, false, ◌||◌, ◌&&◌, cond, leb, List, [], ◌∷◌, ◌++◌, length, get_or, refl, sym, ap, ◌∙◌, subst, arith, unwrap_or, Some, inl, inr}
use Rattle.std.specs.declared.cmp.Ordering.TheVariants.{Less, Equal}
use Rattle.std.specs.Ordering.{is_eq, eq_by_cmp}
use Rattle.std.specs.Map.{lookup}
use Rattle.std.specs.List.{AllByRecursion}
use Rattle.std.proofs.lemmas.Bool.{cases_order}
use Rattle.std.proofs.lemmas.Cmp.{nat_list_cmp_total, tied_back, eq_by_cmp_equiv}
use Rattle.std.proofs.lemmas.List.Elements.{All-from_recursion}
use Rattle.std.proofs.lemmas.Map.Lookups.{exact_bytes}
use Rattle.std.proofs.Math.Bool.{or-false}
use mathlib.Core.Bool.{false≢true}
use Rattle.std.specs.List.Sorted.{IsStrictlySortedBy}
use Rattle.sup_causal.specs.declared.dot.Dot.{Dot}
use Rattle.sup_specs.specs.Values.{text_cmp}
use Rattle.sup_causal.specs.Cut.{entry, IsRun, in_runs}
use Rattle.sup_causal.proofs.Rising.{greater_from_less}
use Rattle.sup_causal.proofs.DotLemmas.{equal_from_is_eq}

-- one run
pub run_is_one : (holds : Dot → Bool) (node : List ℕ) (n m : ℕ) → IsRun holds node n → IsRun holds node m → n ≡ m
run_is_one holds node n m a b = elim (cases_order n m) [
  | inl same ↦ same
  | inr apart ↦ elim apart [
    | inl below ↦ absurd (false≢true (sym a.next_missing ∙ b.all_there (n + 1) (omega arith) (omega (arith, below))))
    | inr above ↦ absurd (false≢true (sym b.next_missing ∙ a.all_there (m + 1) (omega arith) (omega (arith, above))))
  ]
]

-- a test that says the same has the same run
pub run_same : (holds also : Dot → Bool) (node : List ℕ) (n : ℕ) → ((d : Dot) → holds d ≡ also d) → IsRun holds node n → IsRun also node n
run_same holds also node n same run = record { all_there = λ k low high. sym (same _) ∙ run.all_there k low high; next_missing = sym (same _) ∙ run.next_missing }

-- the entry at a head that is the node's, and past another
entry_head : (e : List ℕ × ℕ) (es : List (List ℕ × ℕ)) (node : List ℕ) → is_eq (text_cmp node e.0) ≡ true → entry (e ∷ es) node ≡ e.1
entry_head e es node h = ap (λ b. unwrap_or (cond b (Some e.1) (lookup (eq_by_cmp text_cmp node) es)) 0) h

entry_tail : (e : List ℕ × ℕ) (es : List (List ℕ × ℕ)) (node : List ℕ) → is_eq (text_cmp node e.0) ≡ false → entry (e ∷ es) node ≡ entry es node
entry_tail e es node h = ap (λ b. unwrap_or (cond b (Some e.1) (lookup (eq_by_cmp text_cmp node) es)) 0) h

pub below_place : (e : List ℕ × ℕ) (es : List (List ℕ × ℕ)) → IsStrictlySortedBy (λ (a b : List ℕ × ℕ). text_cmp a.0 b.0) (e ∷ es) → (i : ℕ) (node : List ℕ) (d : List ℕ × ℕ) → i < length es → text_cmp (get_or es i d).0 node ≡ Equal → text_cmp e.0 node ≡ Less
unfolding IsStrictlySortedBy
below_place e es s i node d within tie =
    subst (λ m. text_cmp e.0 m ≡ Less) (exact_bytes (get_or es i d).0 node tie) (All-from_recursion (λ (y : List ℕ × ℕ). text_cmp e.0 y.0 ≡ Less) es s.0 i d within)

-- the entry at a place
pub entry_found : (es : List (List ℕ × ℕ)) → IsStrictlySortedBy (λ (a b : List ℕ × ℕ). text_cmp a.0 b.0) es → (i : ℕ) (node : List ℕ) (d : List ℕ × ℕ) → i < length es → text_cmp (get_or es i d).0 node ≡ Equal → entry es node ≡ (get_or es i d).1
unfolding IsStrictlySortedBy
entry_found [] s i node d within tie = absurd (omega (arith, within))
entry_found (e ∷ es) s zero node d within tie = entry_head e es node (ap is_eq (tied_back nat_list_cmp_total e.0 node tie))
entry_found (e ∷ es) s (suc i) node d within tie =
    entry_tail e es node (ap is_eq (greater_from_less nat_list_cmp_total e.0 node (below_place e es s i node d (omega (arith, within)) tie)))
    ∙ entry_found es s.1 i node d (omega (arith, within)) tie

-- none where no place is the node's
pub entry_missed : (es : List (List ℕ × ℕ)) (node : List ℕ) → ((k : ℕ) (d : List ℕ × ℕ) → k < length es → is_eq (text_cmp (get_or es k d).0 node) ≡ false) → entry es node ≡ 0
entry_missed [] node none = refl
entry_missed (e ∷ es) node none =
    entry_tail e es node ((eq_by_cmp_equiv nat_list_cmp_total).symm node e.0 ∙ none 0 e (omega arith)) ∙ entry_missed es node (λ k d within. none (suc k) d (omega (arith, within)))

-- the runs that the entries give
-- a node that the first entry is of has none behind it
pub entry_later : (e : List ℕ × ℕ) (es : List (List ℕ × ℕ)) → IsStrictlySortedBy (λ (a b : List ℕ × ℕ). text_cmp a.0 b.0) (e ∷ es) → (node : List ℕ) → text_cmp node e.0 ≡ Equal → entry es node ≡ 0
unfolding IsStrictlySortedBy
entry_later e es s node tie = entry_missed es node (λ k q within.
    let above : text_cmp e.0 (get_or es k q).0 ≡ Less = All-from_recursion (λ (y : List ℕ × ℕ). text_cmp e.0 y.0 ≡ Less) es s.0 k q within in
    let above_node : text_cmp node (get_or es k q).0 ≡ Less = subst (λ m. text_cmp m (get_or es k q).0 ≡ Less) (sym (exact_bytes node e.0 tie)) above in
    ap is_eq (greater_from_less nat_list_cmp_total node (get_or es k q).0 above_node))

pub uncounted : (c : ℕ) → (leb 1 c && leb c 0) ≡ false
uncounted zero = refl
uncounted (suc c) = grind arith

pub in_runs_is : (es : List (List ℕ × ℕ)) → IsStrictlySortedBy (λ (a b : List ℕ × ℕ). text_cmp a.0 b.0) es → (d : Dot) → in_runs es d ≡ (leb 1 d.counter && leb d.counter (entry es d.node))
unfolding IsStrictlySortedBy
in_runs_is [] s d = sym (uncounted d.counter)
in_runs_is (e ∷ es) s d = turn (eq_by_cmp text_cmp d.node e.0) refl (in_runs_is es s.1 d)
  where
    turn : (b : Bool) → eq_by_cmp text_cmp d.node e.0 ≡ b → in_runs es d ≡ (leb 1 d.counter && leb d.counter (entry es d.node)) → ((eq_by_cmp text_cmp d.node e.0 && (leb 1 d.counter && leb d.counter e.1)) || in_runs es d) ≡ (leb 1 d.counter && leb d.counter (entry (e ∷ es) d.node))
    turn true h further =
        (λ k. (h k && (leb 1 d.counter && leb d.counter e.1)) || (further ∙ ap (λ n. leb 1 d.counter && leb d.counter n) (entry_later e es s d.node (equal_from_is_eq _ h)) ∙ uncounted d.counter) k)
        ∙ or-false _ ∙ ap (λ n. leb 1 d.counter && leb d.counter n) (sym (entry_head e es d.node h))
    turn false h further =
        ap (λ b. (b && (leb 1 d.counter && leb d.counter e.1)) || in_runs es d) h ∙ further ∙ ap (λ n. leb 1 d.counter && leb d.counter n) (sym (entry_tail e es d.node h))

pub each_push : {K : Type 0} (P : K → Type 0) (xs : List K) (x : K) → AllByRecursion P xs → P x → AllByRecursion P (xs ++ x ∷ [])
each_push P [] x all here = (here, tt)
each_push P (y ∷ ys) x all here = (all.0, each_push P ys x all.1 here)
