-- A walk over two maps: its least key, and what is done key by key.
use Rattle.std.proofs.Common.{Bor, ◌≡◌, ◌||◌, Bool, true, false, cond, List, [], ◌∷◌, drop, Option, Some, None, refl, sym, ◌∙◌, ap, subst, ◌⊎◌, inl, inr}
use Rattle.std.specs.declared.cmp.Ordering.{Ordering}
use Rattle.std.specs.declared.cmp.Ordering.TheVariants.{Less, Equal, Greater}
use Rattle.std.specs.Ordering.{eq_by_cmp, is_eq}
use Rattle.std.specs.Cmp.{IsTotalOrder}
use Rattle.std.specs.List.Sorted.{IsStrictlySortedBy}
use Rattle.std.specs.Map.{lookup, keys_of}
use Rattle.std.specs.Option.{is_some, option_map}
use Rattle.std.specs.Map.Iter.{TakesFirst, deref_pair}
use Rattle.std.specs.BTreeMap.{is_at}
use Rattle.std.proofs.lemmas.Cmp.{eq_by_cmp_equiv, tied_itself}
use Rattle.std.proofs.lemmas.Option.{same_Some}
use mathlib.Core.Bool.{false≢true}
use Rattle.sup_specs.specs.Exact.{IsExact}
use Rattle.sup_causal.specs.Walk.{at_first, KeysRise, IsBelowKeys, IsLeastKey, StandsTo, IsLesserKey, past_told}
use Rattle.sup_causal.proofs.Union.{each_weaker}

-- what a list goes on with after its first element
pub goes_on : {X : Type 0} (all : List X) (x : X) (rest : List X) → all ≡ x ∷ drop 1 all → rest ≡ drop 1 all → all ≡ x ∷ rest
goes_on all x rest first on = first ∙ ap (λ l. x ∷ l) (sym on)

module _ {K V : Type 0} (cmp : K → K → Ordering) where
  -- what rises after a first key
  pub rises_on : (all : List (K × V)) (e : K × V) (rest : List (K × V)) → all ≡ e ∷ rest → KeysRise cmp all → IsBelowKeys cmp e.0 rest × KeysRise cmp rest
  unfolding IsStrictlySortedBy
  rises_on all e rest is s = subst (KeysRise cmp) is s

  -- what rises without its first
  pub rises_rest : (all rest : List (K × V)) → rest ≡ drop 1 all → KeysRise cmp all → KeysRise cmp rest
  unfolding IsStrictlySortedBy
  rises_rest [] rest on s = subst (KeysRise cmp) (sym on) tt
  rises_rest (e ∷ all) rest on s = subst (KeysRise cmp) (sym on) s.1

  pub below_none : (k : K) (es : List (K × V)) → es ≡ [] → IsBelowKeys cmp k es
  below_none k es none = subst (IsBelowKeys cmp k) (sym none) tt

  -- what rises past what is told
  pub rises_past : (o : Option V) (all rest : List (K × V)) → rest ≡ past_told o all → KeysRise cmp all → KeysRise cmp rest
  rises_past None all rest on s = subst (KeysRise cmp) (sym on) s
  rises_past (Some v) all rest on s = rises_rest all rest on s

  module _ (total : IsTotalOrder cmp) where
    -- below a first key, and so below all that rise from it
    pub below_first : (k q : K) (w : V) (rs rights : List (K × V)) → cmp k q ≡ Less → rs ≡ (q, w) ∷ rights → KeysRise cmp rs → IsBelowKeys cmp k rs
    below_first k q w rs rights less is s =
        subst (IsBelowKeys cmp k) (sym is) (less, each_weaker (λ x. cmp q x ≡ Less) (λ x. cmp k x ≡ Less) (λ x lt. total.trans k q x less lt) (keys_of rights) (rises_on rs (q, w) rights is s).0)

    -- one list of a walk whose first entry stands to the key
    side : (k : K) (o : Option V) (first : Option (Bor K × Bor V)) (all rest : List (K × V)) → TakesFirst deref_pair all first (drop 1 all) → KeysRise cmp all → StandsTo cmp k o (option_map deref_pair first) → rest ≡ past_told o all → (all ≡ at_first k o rest) × IsBelowKeys cmp k rest
    side k (Some v) None all rest takes rises stands on = absurd cc
    side k (Some v) (Some x) all rest takes rises stands on =
        let goes : all ≡ (k, v) ∷ rest = goes_on all (k, v) rest (takes ∙ ap (λ e. e ∷ drop 1 all) (same_Some (deref_pair x) (k, v) stands)) on in
        (goes, (rises_on all (k, v) rest goes rises).0)
    side k None None all rest takes rises stands on = (sym on, below_none k rest (on ∙ takes.0))
    side k None (Some x) all rest takes rises stands on = (sym on, subst (IsBelowKeys cmp k) (sym on) (below_first k x.0.now x.1.now all (drop 1 all) stands takes rises))

    -- a step of a walk
    pub steps : (k : K) (l r : Option V) (first_left first_right : Option (Bor K × Bor V)) (ls rs lefts rights : List (K × V)) → TakesFirst deref_pair ls first_left (drop 1 ls) → TakesFirst deref_pair rs first_right (drop 1 rs) → KeysRise cmp ls → KeysRise cmp rs
        → IsLesserKey cmp k l r (option_map deref_pair first_left) (option_map deref_pair first_right) → lefts ≡ past_told l ls → rights ≡ past_told r rs → IsLeastKey cmp k l r ls rs lefts rights
    steps k l r first_left first_right ls rs lefts rights takes_left takes_right s t lesser left_on right_on =
        let left = side k l first_left ls lefts takes_left s lesser.left_stands left_on in
        let right = side k r first_right rs rights takes_right t lesser.right_stands right_on in
        record { left_first = left.0; right_first = right.0; below_left = left.1; below_right = right.1; held = lesser.held }

    absent_below : (k : K) (es : List (K × V)) → IsBelowKeys cmp k es → lookup (is_at (cmp k)) es ≡ None
    absent_below k [] below = refl
    absent_below k (e ∷ es) below = ap (λ o. cond (is_eq o) (Some e.1) (lookup (is_at (cmp k)) es)) below.0 ∙ absent_below k es below.1

    -- what a list has at its least key
    at_least : (k : K) (o : Option V) (all rest : List (K × V)) → all ≡ at_first k o rest → IsBelowKeys cmp k rest → lookup (is_at (cmp k)) all ≡ o
    at_least k None all rest is below = ap (lookup (is_at (cmp k))) is ∙ absent_below k rest below
    at_least k (Some v) all rest is below = ap (lookup (is_at (cmp k))) is ∙ ap (λ o. cond (is_eq o) (Some v) (lookup (is_at (cmp k)) rest)) (tied_itself total k)

    -- what it has elsewhere
    at_other : (k q : K) (o : Option V) (all rest : List (K × V)) → all ≡ at_first k o rest → eq_by_cmp cmp k q ≡ false → lookup (is_at (cmp q)) all ≡ lookup (is_at (cmp q)) rest
    at_other k q None all rest is apart = ap (lookup (is_at (cmp q))) is
    at_other k q (Some v) all rest is apart = ap (lookup (is_at (cmp q))) is ∙ ap (λ b. cond b (Some v) (lookup (is_at (cmp q)) rest)) ((eq_by_cmp_equiv total).symm q k ∙ apart)

-- where a walk is at the key q: past it, with nothing there any more, or before it, with what the maps have there
abbrev pub Passes : {K V : Type 0} (cmp : K → K → Ordering) → (K → Option V) → (K → Option V) → List (K × V) → List (K × V) → Type 0 → Type 0 → K → Type 0
Passes cmp left right ls rs Past Before q =
    ((lookup (is_at (cmp q)) ls ≡ None) × (lookup (is_at (cmp q)) rs ≡ None) × Past) ⊎ ((lookup (is_at (cmp q)) ls ≡ left q) × (lookup (is_at (cmp q)) rs ≡ right q) × Before)

tied_is : {K : Type 0} {cmp : K → K → Ordering} → IsExact cmp → (k q : K) (r : Ordering) → cmp k q ≡ r → is_eq r ≡ true → k ≡ q
tied_is exact k q Equal e h = exact k q e
tied_is exact k q Less e h = absurd (false≢true h)
tied_is exact k q Greater e h = absurd (false≢true h)

module _ {K V : Type 0} {cmp : K → K → Ordering} (total : IsTotalOrder cmp) (left right : K → Option V) where
  none_held : (l r : Option V) → l ≡ None → r ≡ None → (is_some l || is_some r) ≡ true → ⊥
  none_held l r p q held = false≢true (sym (ap (λ o. is_some o || is_some r) p ∙ ap is_some q) ∙ held)

  module _ {k : K} {l r : Option V} {ls rs lefts rights : List (K × V)} (least : IsLeastKey cmp k l r ls rs lefts rights) where
    left_has : lookup (is_at (cmp k)) ls ≡ l
    left_has = at_least cmp total k l ls lefts least.left_first least.below_left

    right_has : lookup (is_at (cmp k)) rs ≡ r
    right_has = at_least cmp total k r rs rights least.right_first least.below_right

    left_keeps : (q : K) → eq_by_cmp cmp k q ≡ false → lookup (is_at (cmp q)) lefts ≡ lookup (is_at (cmp q)) ls
    left_keeps q apart = sym (at_other cmp total k q l ls lefts least.left_first apart)

    right_keeps : (q : K) → eq_by_cmp cmp k q ≡ false → lookup (is_at (cmp q)) rights ≡ lookup (is_at (cmp q)) rs
    right_keeps q apart = sym (at_other cmp total k q r rs rights least.right_first apart)

    -- at its least key a walk is before that key
    pub met_at : {Past Before : Type 0} → Passes cmp left right ls rs Past Before k → (l ≡ left k) × (r ≡ right k) × Before
    met_at (inl past) = absurd (none_held l r (sym left_has ∙ past.0) (sym right_has ∙ past.1) least.held)
    met_at (inr before) = (sym left_has ∙ before.0, sym right_has ∙ before.1, before.2)

    goes_by : {Past Before Past' Before' : Type 0} (q : K) → eq_by_cmp cmp k q ≡ false → Passes cmp left right ls rs Past Before q → (Past → Past') → (Before → Before') → Passes cmp left right lefts rights Past' Before' q
    goes_by q apart (inl done) past before = inl (left_keeps q apart ∙ done.0, right_keeps q apart ∙ done.1, past done.2)
    goes_by q apart (inr ahead) past before = inr (left_keeps q apart ∙ ahead.0, right_keeps q apart ∙ ahead.1, before ahead.2)

    -- a step past the least key
    pub walks_on : {Past Before Past' Before' : Type 0} → IsExact cmp → (q : K) → Passes cmp left right ls rs Past Before q
        → (k ≡ q → Past') → (eq_by_cmp cmp k q ≡ false → Past → Past') → (eq_by_cmp cmp k q ≡ false → Before → Before') → Passes cmp left right lefts rights Past' Before' q
    walks_on {Past} {Before} {Past'} {Before'} exact q so_far here past before = at _ refl
      where
        gone : (es : List (K × V)) → IsBelowKeys cmp k es → k ≡ q → lookup (is_at (cmp q)) es ≡ None
        gone es below e = subst (λ x. lookup (is_at (cmp x)) es ≡ None) e (absent_below cmp total k es below)

        at : (b : Bool) → eq_by_cmp cmp k q ≡ b → Passes cmp left right lefts rights Past' Before' q
        at true e = let same : k ≡ q = tied_is exact k q _ refl e in inl (gone lefts least.below_left same, gone rights least.below_right same, here same)
        at false e = goes_by q e so_far (past e) (before e)

  -- at the end of both lists
  pub walked : (ls rs : List (K × V)) → ls ≡ [] → rs ≡ [] → {Past Before : Type 0} → (q : K) → (left q ≡ None → right q ≡ None → Before → Past) → Passes cmp left right ls rs Past Before q → Past
  walked ls rs p r q untouched (inl past) = past.2
  walked ls rs p r q untouched (inr before) = untouched (sym before.0 ∙ ap (lookup (is_at (cmp q))) p) (sym before.1 ∙ ap (lookup (is_at (cmp q))) r) before.2
