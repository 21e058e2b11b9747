-- Views and their shares: steps, splits and joins keep the whole; a view that has all of it has made each call, and none beside it has the turn.
use Rattle.std.proofs.Common.{◌≡◌, ℕ, zero, suc, ◌+◌, ◌<◌, ◌≤◌, ◌≢◌, List, [], ◌∷◌, ◌++◌, map, length, set, refl, ap, ◌∙◌, sym, subst, ⊎_elim, append_assoc, append-nil, length-append, arith, Some}
use Rattle.std.specs.Prelude.{is_some, true, false}
use mathlib.Core.Logic.{dite}
use mathlib.Core.Option.{some, some-injective, some-ne-none}
use native.Mathlib.Decide.{ℕ_discrete}
use lib.ListN.{get_elem?}
use Rattle.atomic_table.proofs.Lists.{set_else}
use Rattle.sup_node_gate.specs.declared.entry.Entry.{Entry}
use Rattle.sup_node_gate.specs.declared.view.Holding.{Holding}
use Rattle.sup_node_gate.specs.declared.view.View.{View}
use Rattle.sup_node_gate.specs.Histories.{IsPrefix}
use Rattle.sup_node_gate.specs.Shares.{parts_at, AllAtMost, IsWholeAt, IsWhole, halved, is_shared}
use Rattle.sup_node_gate.specs.Views.{IsAmongPlaces, PlacesRise, calls_of}
use Rattle.sup_node_gate.specs.Rule.{IsHeldBy, AllOwned, OwnsByShare, all_shares}
use Rattle.sup_node_gate.proofs.HistoryListLaws.{rises_le, entries_more}
use Rattle.sup_node_gate.proofs.PlaceListLaws.{above}
use Rattle.sup_node_gate.proofs.ShareLaws.{parts_append, most_append, most_left, most_right, most_halved, parts_deeper, parts_halved, no_parts, whole_deeper, whole_beyond}

module _ (n : ℕ) where
  set_parts : (vs : List View) (me : ℕ) (v w : View) → get_elem? vs me ≡ some v → parts_at n (all_shares (set vs me w)) + parts_at n v.shares ≡ parts_at n (all_shares vs) + parts_at n w.shares
  set_parts [] me v w e = absurd (some-ne-none v (sym e))
  set_parts (x ∷ xs) zero v w e = let is : x ≡ v = some-injective x v e in let same : parts_at n x.shares ≡ parts_at n v.shares = ap (λ (d : View). parts_at n d.shares) is in
      let a = parts_append n w.shares (all_shares xs) in let b = parts_append n x.shares (all_shares xs) in omega (arith, a, b, same)
  set_parts (x ∷ xs) (suc i) v w e = let r = set_parts xs i v w e in let a = parts_append n x.shares (all_shares (set xs i w)) in let b = parts_append n x.shares (all_shares xs) in omega (arith, r, a, b)

  set_most : (vs : List View) (me : ℕ) (v w : View) → get_elem? vs me ≡ some v → AllAtMost n (all_shares vs) → AllAtMost n w.shares → AllAtMost n (all_shares (set vs me w))
  set_most [] me v w e a b = absurd (some-ne-none v (sym e))
  set_most (x ∷ xs) zero v w e a b = most_append n w.shares (all_shares xs) b (most_right n x.shares (all_shares xs) a)
  set_most (x ∷ xs) (suc i) v w e a b = most_append n x.shares (all_shares (set xs i w)) (most_left n x.shares (all_shares xs) a) (set_most xs i v w e (most_right n x.shares (all_shares xs) a) b)

  most_at : (vs : List View) (me : ℕ) (v : View) → get_elem? vs me ≡ some v → AllAtMost n (all_shares vs) → AllAtMost n v.shares
  most_at [] me v e a = absurd (some-ne-none v (sym e))
  most_at (x ∷ xs) zero v e a = subst (λ (d : View). AllAtMost n d.shares) (some-injective x v e) (most_left n x.shares (all_shares xs) a)
  most_at (x ∷ xs) (suc i) v e a = most_at xs i v e (most_right n x.shares (all_shares xs) a)

  parts_among : (vs : List View) (me : ℕ) (v : View) → get_elem? vs me ≡ some v → parts_at n v.shares ≤ parts_at n (all_shares vs)
  parts_among [] me v e = absurd (some-ne-none v (sym e))
  parts_among (x ∷ xs) zero v e = let is : x ≡ v = some-injective x v e in let same : parts_at n x.shares ≡ parts_at n v.shares = ap (λ (d : View). parts_at n d.shares) is in
      let b = parts_append n x.shares (all_shares xs) in omega (arith, b, same)
  parts_among (x ∷ xs) (suc i) v e = let r = parts_among xs i v e in let b = parts_append n x.shares (all_shares xs) in omega (arith, b, r)

shares_snoc : (vs : List View) (u : View) → all_shares (vs ++ u ∷ []) ≡ all_shares vs ++ u.shares
shares_snoc [] u = append-nil u.shares
shares_snoc (x ∷ xs) u = ap (λ l. x.shares ++ l) (shares_snoc xs u) ∙ sym (append_assoc x.shares (all_shares xs) u.shares)

pub whole_stays : (vs : List View) (me : ℕ) (v w : View) → get_elem? vs me ≡ some v → w.shares ≡ v.shares → IsWhole (all_shares vs) → IsWhole (all_shares (set vs me w))
whole_stays vs me v w at same whole = let n = whole.0 in
    let e = set_parts n vs me v w at in let s : parts_at n w.shares ≡ parts_at n v.shares = ap (parts_at n) same in let t = whole.1.1 in
    (n, (set_most n vs me v w at whole.1.0 (subst (AllAtMost n) (sym same) (most_at n vs me v at whole.1.0)), omega (arith, e, s, t)))

pub whole_split : (vs : List View) (me : ℕ) (v left right : View) → get_elem? vs me ≡ some v → left.shares ≡ halved v.shares → right.shares ≡ halved v.shares
    → IsWhole (all_shares vs) → IsWhole (all_shares (set vs me left ++ right ∷ []))
whole_split vs me v left right at l r whole = let n = whole.0 in let m : ℕ = suc n in let deeper = whole_deeper n (all_shares vs) whole.1 in
    let fine = most_at n vs me v at whole.1.0 in let half = most_halved n v.shares fine in
    let a = parts_append m (all_shares (set vs me left)) right.shares in let b = set_parts m vs me v left at in
    let c : parts_at m left.shares ≡ parts_at n v.shares = ap (parts_at m) l ∙ parts_halved n v.shares in
    let d : parts_at m right.shares ≡ parts_at n v.shares = ap (parts_at m) r ∙ parts_halved n v.shares in
    let e = parts_deeper n v.shares fine in let f = deeper.1 in
    subst IsWhole (sym (shares_snoc (set vs me left) right))
    (m, (most_append m (all_shares (set vs me left)) right.shares (set_most m vs me v left at deeper.0 (subst (AllAtMost m) (sym l) half)) (subst (AllAtMost m) (sym r) half), omega (arith, a, b, c, d, e, f)))

pub whole_joined : (vs : List View) (id other : ℕ) (v u both none : View) → get_elem? vs id ≡ some v → get_elem? vs other ≡ some u → get_elem? (set vs id both) other ≡ some u
    → both.shares ≡ v.shares ++ u.shares → none.shares ≡ [] → IsWhole (all_shares vs) → IsWhole (all_shares (set (set vs id both) other none))
whole_joined vs id other v u both none at there there' j z whole = let n = whole.0 in
    let a = set_parts n vs id v both at in let b = set_parts n (set vs id both) other u none there' in
    let c : parts_at n both.shares ≡ parts_at n v.shares + parts_at n u.shares = ap (parts_at n) j ∙ parts_append n v.shares u.shares in
    let d : parts_at n none.shares ≡ 0 = ap (parts_at n) z in let e = whole.1.1 in
    let mv = most_at n vs id v at whole.1.0 in let mu = most_at n vs other u there whole.1.0 in
    (n, (set_most n (set vs id both) other u none there' (set_most n vs id v both at whole.1.0 (subst (AllAtMost n) (sym j) (most_append n v.shares u.shares mv mu))) (subst (AllAtMost n) (sym z) tt), omega (arith, a, b, c, d, e)))

-- beside a view that has all shares no other has any
others_none : (vs : List View) (id : ℕ) (v : View) → get_elem? vs id ≡ some v → IsWhole (all_shares vs) → IsWhole v.shares → (j : ℕ) (u : View) → j ≢ id → get_elem? vs j ≡ some u → u.shares ≡ []
others_none vs id v at all mine j u other there = let n = all.0 in let m = mine.0 in let k : ℕ = m + n in let none : View = record v { shares = [] } in
    let swap : n + m ≡ k = omega arith in
    let a = whole_beyond m n (all_shares vs) all.1 in let b : IsWholeAt k v.shares = subst (λ (z : ℕ). IsWholeAt z v.shares) swap (whole_beyond n m v.shares mine.1) in
    let c = set_parts k vs id v none at in let d = parts_among k (set vs id none) j u (set_else vs id j none other ∙ there) in
    let e = a.1 in let f = b.1 in no_parts k u.shares (omega (arith, c, d, e, f))

pub free_has : (u : View) (h : Holding) → is_some u.turn ≡ false → u.turn ≡ Some h → ⊥
free_has u h e f = let bad : true ≡ false = sym (ap is_some f) ∙ e in cc

-- where an idle view has all shares none has the turn
pub taken_apart : (vs : List View) (id holder : ℕ) (v : View) → get_elem? vs id ≡ some v → is_some v.turn ≡ false → IsHeldBy vs holder → ((j : ℕ) (u : View) → get_elem? vs j ≡ some u → OwnsByShare u) → IsWhole (all_shares vs)
    → ¬ (IsWhole v.shares)
taken_apart vs id holder v at idle by bare all mine = dite (ℕ_discrete holder id)
    (λ (e : holder ≡ id). let is : v ≡ by.0 = some-injective v by.0 (sym at ∙ subst (λ (z : ℕ). get_elem? vs z ≡ some by.0) e by.2) in free_has v by.1 idle (ap (λ x. x.turn) is ∙ by.3))
    (λ other. let none = others_none vs id v at all mine holder by.0 other by.2 in free_has by.0 by.1 (ap is_some (bare holder by.0 by.2 (ap is_shared none)).1) by.3)

all_own : (vs : List View) (id n : ℕ) (v : View) → get_elem? vs id ≡ some v → AllOwned vs n → ((j : ℕ) (u : View) → get_elem? vs j ≡ some u → OwnsByShare u) → IsWhole (all_shares vs) → IsWhole v.shares
    → (p : ℕ) → p < n → IsAmongPlaces p v.own
all_own vs id n v at owned bare all mine p lt = let o = owned p lt in dite (ℕ_discrete o.0 id)
    (λ (e : o.0 ≡ id). let is : v ≡ o.1 = some-injective v o.1 (sym at ∙ subst (λ (z : ℕ). get_elem? vs z ≡ some o.1) e o.2) in subst (λ (w : View). IsAmongPlaces p w.own) (sym is) o.3)
    (λ other. let none = others_none vs id v at all mine o.0 o.1 other o.2 in absurd (subst (IsAmongPlaces p) (bare o.0 o.1 o.2 (ap is_shared none)).0 o.3))

at_middle : (before : List Entry) (e : Entry) (es : List Entry) → get_elem? (before ++ e ∷ es) (length before) ≡ some e
at_middle [] e es = refl
at_middle (x ∷ before) e es = at_middle before e es

-- places that rise and are all there are read the whole list
all_calls : (before es : List Entry) (own : List ℕ) → PlacesRise (length before) own (length before + length es) → ((p : ℕ) → length before ≤ p → p < length before + length es → IsAmongPlaces p own)
    → map (get_elem? (before ++ es)) own ≡ map some es
all_calls before [] [] r all = refl
all_calls before [] (x ∷ xs) r all = let a = r.0 in let b = rises_le (suc x) xs _ r.1 in absurd (omega (arith, a, b))
all_calls before (e ∷ es) [] r all = absurd (all (length before) (omega arith) (omega arith))
all_calls before (e ∷ es) (x ∷ xs) r all = let low = r.0 in
    let here : x ≡ length before = ⊎_elim (λ (h : length before ≡ x). sym h) (λ (t : IsAmongPlaces (length before) xs). let a = above xs (suc x) _ (length before) r.1 t in absurd (omega (arith, low, a))) (all (length before) (omega arith) (omega arith)) in
    let longer : length (before ++ e ∷ []) ≡ length before + 1 = length-append before (e ∷ []) in
    let from : suc x ≡ length (before ++ e ∷ []) = omega (arith, here, longer) in
    let to : length before + suc (length es) ≡ length (before ++ e ∷ []) + length es = omega (arith, longer) in
    let rest = all_calls (before ++ e ∷ []) es xs (subst (λ (z : ℕ × ℕ). PlacesRise z.0 xs z.1) (λ i. (from i, to i)) r.1)
    (λ p lo hi. ⊎_elim (λ (h : p ≡ x). absurd (omega (arith, here, longer, lo, h))) (λ (t : IsAmongPlaces p xs). t) (all p (omega (arith, longer, lo)) (omega (arith, to, hi)))) in
    let at : get_elem? (before ++ e ∷ es) x ≡ some e = ap (get_elem? (before ++ e ∷ es)) here ∙ at_middle before e es in
    let tail : map (get_elem? (before ++ e ∷ es)) xs ≡ map some es = ap (λ (l : List Entry). map (get_elem? l) xs) (sym (append_assoc before (e ∷ []) es)) ∙ rest in
    (λ i. at i ∷ tail i)

-- a view that has all shares has made each call of the history
pub sole_calls : (vs : List View) (id : ℕ) (v : View) (history : List Entry) → get_elem? vs id ≡ some v → AllOwned vs (length history) → ((j : ℕ) (u : View) → get_elem? vs j ≡ some u → OwnsByShare u)
    → IsWhole (all_shares vs) → IsWhole v.shares → IsPrefix v.seen history → PlacesRise 0 v.own (length history) → PlacesRise 0 v.own (length v.seen) → calls_of v ≡ map some history
sole_calls vs id v history at owned bare all mine begins rises placed =
    let same = subst (λ (l : List Entry). map (get_elem? l) v.own ≡ calls_of v) (sym begins.1) (entries_more v.seen begins.0 v.own 0 placed) in
    let count : length history ≡ 0 + length history = omega arith in
    sym same ∙ all_calls [] history v.own (subst (PlacesRise 0 v.own) count rises) (λ p _ lt. all_own vs id (length history) v at owned bare all mine p (subst (λ (z : ℕ). p < z) (sym count) lt))
