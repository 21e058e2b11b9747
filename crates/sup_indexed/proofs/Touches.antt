-- The keys that a plan touches, found by one pass over what is planned.
use mathlib.Core.Bool.{false≢true}
use Rattle.std.specs.Prelude.{◌≡◌, ◌↔◌, Bool, true, false, ◌||◌, cond, List, [], ◌∷◌, ◌++◌, Option, Some, None, IsSome, IsTrue, refl}
use Rattle.std.proofs.Common.{sym, ap, ◌∙◌, subst}
use Rattle.std.specs.declared.cmp.Ordering.{Ordering}
use Rattle.std.specs.declared.cmp.Ordering.TheVariants.{Less}
use Rattle.std.specs.Ordering.{eq_by_cmp}
use Rattle.std.specs.Cmp.{IsTotalOrder}
use Rattle.std.specs.List.{AllByRecursion, list_any}
use Rattle.std.specs.List.Sorted.{IsStrictlySortedBy}
use Rattle.std.specs.Map.{keys_of, lookup}
use Rattle.std.specs.BTreeMap.{BTreeMap, get, is_at}
use Rattle.std.proofs.lemmas.Cmp.{eq_by_cmp_equiv}
use Rattle.std.proofs.lemmas.List.{append_assoc, append-nil}
use Rattle.std.proofs.lemmas.List.Folds.{list_any-append}
use Rattle.std.proofs.lemmas.Map.Keys.{IsDistinct-from_sorted}
use Rattle.std.proofs.lemmas.Option.{same_Some}
use Rattle.std.proofs.Math.Bool.{or-true}
use Rattle.std.proofs.Math.Bool.{or-false}
use Rattle.std.proofs.lemmas.Map.{lookup-none}
use Rattle.std.proofs.lemmas.Map.Entries.{none_past_head}
use Rattle.sup_specs.specs.Rising.{among}
use Rattle.sup_specs.specs.Exact.{IsExact}
use Rattle.sup_causal.specs.declared.dot.Dot.{Dot}
use Rattle.sup_dot_store.specs.declared.dot_fun.DotFun.{DotFun}
use Rattle.sup_dot_store.proofs.IndexLaws.{same, tie}
use Rattle.sup_indexed.specs.Touched.{first_in, function_after, first_at, first_after}

module _ {K : Type 0} (cmp : K → K → Ordering) where
  all_but : (P : K → Type 0) (xs : List K) (y : K) (ys : List K) → AllByRecursion P (xs ++ y ∷ ys) → AllByRecursion P (xs ++ ys)
  all_but P [] y ys all = all.1
  all_but P (x ∷ xs) y ys all = (all.0, all_but P xs y ys all.1)

  -- a rising list without one of its elements
  pub sorted_but : (xs : List K) (y : K) (ys : List K) → IsStrictlySortedBy cmp (xs ++ y ∷ ys) → IsStrictlySortedBy cmp (xs ++ ys)
  unfolding IsStrictlySortedBy
  sorted_but [] y ys s = s.1
  sorted_but (x ∷ xs) y ys s = (all_but (λ z. cmp x z ≡ Less) xs y ys s.0, sorted_but xs y ys s.1)

  pub sorted_end : (xs ys : List K) → IsStrictlySortedBy cmp (xs ++ ys) → IsStrictlySortedBy cmp ys
  unfolding IsStrictlySortedBy
  sorted_end [] ys s = s
  sorted_end (x ∷ xs) ys s = sorted_end xs ys s.1

module _ {K V : Type 0} (cmp : K → K → Ordering) (changed stores : BTreeMap K (DotFun V)) where
  -- the first value under the key is another, is new or is gone
  abbrev pub Differs : K → Type 0
  Differs k = first_after cmp changed stores k ≡ first_at cmp stores k → ⊥

  -- the first value under the key answers a question as before
  abbrev pub Stays : (Option (Dot × V) → Bool) → K → Type 0
  Stays asked k = asked (first_after cmp changed stores k) ≡ asked (first_at cmp stores k)

  -- the touched keys among those that are no more left
  pub record IsTouching (keys : List K) (left : List (K × DotFun V)) : Type 0 where
    pub rise : IsStrictlySortedBy cmp (keys ++ keys_of left)
    pub exact : (k : K) → lookup (is_at (cmp k)) left ≡ None → (among cmp keys k ≡ true) ↔ Differs k
    pub apart : (k : K) → IsSome (lookup (is_at (cmp k)) left) → among cmp keys k ≡ false
    pub planned : (k : K) (f : DotFun V) → lookup (is_at (cmp k)) left ≡ Some f → get cmp changed k ≡ Some f

  -- of no key that is no more left the answer differs
  pub record AreStaying (asked : Option (Dot × V) → Bool) (left : List (K × DotFun V)) : Type 0 where
    pub rise : IsStrictlySortedBy cmp (keys_of left)
    pub stay : (k : K) → lookup (is_at (cmp k)) left ≡ None → Stays asked k
    pub planned : (k : K) (f : DotFun V) → lookup (is_at (cmp k)) left ≡ Some f → get cmp changed k ≡ Some f

  same_without : (k : K) → get cmp changed k ≡ None → first_after cmp changed stores k ≡ first_at cmp stores k
  same_without k none = ap (λ o. first_in (function_after o (get cmp stores k))) none

  pub touching_none : IsStrictlySortedBy cmp (keys_of changed.entries) → IsTouching [] changed.entries
  touching_none rise = record {
    rise = rise;
    exact = λ k none. ((λ never. absurd (false≢true never)), (λ differs. absurd (differs (same_without k none))));
    apart = λ k s. refl;
    planned = λ k f e. e;
  }

  pub staying_none : (asked : Option (Dot × V) → Bool) → IsStrictlySortedBy cmp (keys_of changed.entries) → AreStaying asked changed.entries
  staying_none asked rise = record { rise = rise; stay = λ k none. ap asked (same_without k none); planned = λ k f e. e }

  pub touching_all : (keys : List K) → IsTouching keys [] → IsStrictlySortedBy cmp keys
  touching_all keys touching = subst (IsStrictlySortedBy cmp) (append-nil keys) touching.rise

  module _ (total : IsTotalOrder cmp) (exact : IsExact cmp) (key : K) (f : DotFun V) (rest : List (K × DotFun V)) where
    here : (k : K) → eq_by_cmp cmp k key ≡ true → lookup (is_at (cmp k)) ((key, f) ∷ rest) ≡ Some f
    here k e = ap (λ b. cond {A = Option (DotFun V)} b (Some f) (lookup (is_at (cmp k)) rest)) e

    past : (k : K) → eq_by_cmp cmp k key ≡ false → lookup (is_at (cmp k)) ((key, f) ∷ rest) ≡ lookup (is_at (cmp k)) rest
    past k e = ap (λ b. cond {A = Option (DotFun V)} b (Some f) (lookup (is_at (cmp k)) rest)) e

    module _ (rise : IsStrictlySortedBy cmp (keys_of ((key, f) ∷ rest))) where
      not_here : (k : K) → IsSome (lookup (is_at (cmp k)) rest) → eq_by_cmp cmp k key ≡ false
      not_here k s = at (eq_by_cmp cmp k key) refl
        where
          at : (b : Bool) → eq_by_cmp cmp k key ≡ b → eq_by_cmp cmp k key ≡ false
          at false e = e
          at true e =
              absurd
              (false≢true
              (subst IsSome
              (lookup-none (is_at (cmp k)) rest (none_past_head (eq_by_cmp_equiv total) k (key, f) rest (IsDistinct-from_sorted cmp (keys_of ((key, f) ∷ rest)) rise) e))
              s))

      after_here : ((k : K) (h : DotFun V) → lookup (is_at (cmp k)) ((key, f) ∷ rest) ≡ Some h → get cmp changed k ≡ Some h) → (k : K) (h : DotFun V) → lookup (is_at (cmp k)) rest ≡ Some h → get cmp changed k ≡ Some h
      after_here planned k h e = planned k h (past k (not_here k (subst IsSome (sym e) refl)) ∙ e)

    first_here : ((k : K) (h : DotFun V) → lookup (is_at (cmp k)) ((key, f) ∷ rest) ≡ Some h → get cmp changed k ≡ Some h) → first_after cmp changed stores key ≡ first_in (Some f)
    first_here planned = ap (λ o. first_in (function_after o (get cmp stores key))) (planned key f (here key (tie total key key refl)))

    -- the next key is not touched
    pub touching_less : (keys : List K) → first_in (Some f) ≡ first_at cmp stores key → IsTouching keys ((key, f) ∷ rest) → IsTouching keys rest
    touching_less keys is t =
        let rise = sorted_end cmp keys (keys_of ((key, f) ∷ rest)) t.rise in record {
          rise = sorted_but cmp keys key (keys_of rest) t.rise;
          exact = λ k none. at k none (eq_by_cmp cmp k key) refl;
          apart = λ k s. t.apart k (subst IsSome (sym (past k (not_here rise k s))) s);
          planned = after_here rise t.planned;
        }
      where
        at : (k : K) → lookup (is_at (cmp k)) rest ≡ None → (b : Bool) → eq_by_cmp cmp k key ≡ b → (among cmp keys k ≡ true) ↔ Differs k
        at k none true e = (
          (λ a. absurd (false≢true (sym (t.apart k (subst IsSome (sym (here k e)) refl)) ∙ a))),
          (λ differs. absurd (differs (subst (λ q. first_after cmp changed stores q ≡ first_at cmp stores q) (sym (same exact k key e)) (first_here t.planned ∙ is)))),
        )
        at k none false e = t.exact k (past k e ∙ none)

    -- the next key is touched
    pub touching_more : (keys : List K) → (first_in (Some f) ≡ first_at cmp stores key → ⊥) → IsTouching keys ((key, f) ∷ rest) → IsTouching (keys ++ key ∷ []) rest
    touching_more keys not t =
        let rise = sorted_end cmp keys (keys_of ((key, f) ∷ rest)) t.rise in record {
          rise = subst (IsStrictlySortedBy cmp) (sym (append_assoc keys (key ∷ []) (keys_of rest))) t.rise;
          exact = λ k none. at k none (eq_by_cmp cmp k key) refl;
          apart = λ k s.
              more k ∙ (λ i. t.apart k (subst IsSome (sym (past k (not_here rise k s))) s) i || not_here rise k s i);
          planned = after_here rise t.planned;
        }
      where
        more : (k : K) → among cmp (keys ++ key ∷ []) k ≡ (among cmp keys k || eq_by_cmp cmp k key)
        more k = list_any-append (eq_by_cmp cmp k) keys (key ∷ []) ∙ ap (λ b. among cmp keys k || b) (or-false (eq_by_cmp cmp k key))

        at : (k : K) → lookup (is_at (cmp k)) rest ≡ None → (b : Bool) → eq_by_cmp cmp k key ≡ b → (among cmp (keys ++ key ∷ []) k ≡ true) ↔ Differs k
        at k none true e = (
          (λ a. λ is. not (sym (first_here t.planned) ∙ subst (λ q. first_after cmp changed stores q ≡ first_at cmp stores q) (same exact k key e) is)),
          (λ differs. more k ∙ ap (λ b. among cmp keys k || b) e ∙ or-true (among cmp keys k)),
        )
        at k none false e =
            let was = t.exact k (past k e ∙ none) in
            let as_before : among cmp (keys ++ key ∷ []) k ≡ among cmp keys k = more k ∙ ap (λ b. among cmp keys k || b) e ∙ or-false (among cmp keys k) in
            ((λ a. was.0 (sym as_before ∙ a)), (λ differs. as_before ∙ was.1 differs))

    module _ (asked : Option (Dot × V) → Bool) where
      pub staying_more : asked (first_at cmp stores key) ≡ asked (first_in (Some f)) → AreStaying asked ((key, f) ∷ rest) → AreStaying asked rest
      staying_more is s = record { rise = sorted_end cmp (key ∷ []) (keys_of rest) s.rise; stay = λ k none. at k none (eq_by_cmp cmp k key) refl; planned = after_here s.rise s.planned }
        where
          at : (k : K) → lookup (is_at (cmp k)) rest ≡ None → (b : Bool) → eq_by_cmp cmp k key ≡ b → Stays asked k
          at k none true e = subst (Stays asked) (sym (same exact k key e)) (ap asked (first_here s.planned) ∙ sym is)
          at k none false e = s.stay k (past k e ∙ none)

      pub one_differs : (asked (first_at cmp stores key) ≡ asked (first_in (Some f)) → ⊥) → AreStaying asked ((key, f) ∷ rest) → ((k : K) → Stays asked k) → ⊥
      one_differs not s all = not (sym (all key) ∙ ap asked (first_here s.planned))

-- what is compared are two first values
pub same_first : {V : Type 0} (o p : Option (Dot × V)) (e d : Dot) (w v : V) (r : Bool) → (let x : Dot × V = (e, w) in o ≡ Some x) → (let x : Dot × V = (d, v) in p ≡ Some x) → (IsTrue r ↔ ((e ≡ d) × (w ≡ v))) → IsTrue r ↔ (o ≡ p)
same_first {V} o p e d w v r a b h = (
  (λ yes. a ∙ (λ i. Some ((h.0 yes).0 i, (h.0 yes).1 i)) ∙ sym b),
  (λ is.
      let x : Dot × V = (e, w) in
      let y : Dot × V = (d, v) in
      let both : x ≡ y = same_Some x y (sym a ∙ is ∙ b) in
      h.1 (ap (λ q. q.0) both, ap (λ q. q.1) both)),
)

-- what ties is the same
pub tied_same : {X : Type 0} {cmp : X → X → Ordering} → IsTotalOrder cmp → IsExact cmp → (a b : X) → (eq_by_cmp cmp a b ≡ true) ↔ (b ≡ a)
tied_same total exact a b = ((λ e. sym (same exact a b e)), (λ is. tie total a b (sym is)))
