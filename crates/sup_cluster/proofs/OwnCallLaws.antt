-- The calls that a pass made stand in what it has seen, in their order.
use Rattle.std.proofs.Common.{◌≡◌, ℕ, suc, ◌+◌, ◌≤◌, List, [], ◌∷◌, ◌++◌, length, map, refl, ap, ◌∙◌, sym, subst, inl, inr, append_assoc, length-append, arith}
use mathlib.Core.Logic.{dite}
use mathlib.Core.Option.{some, some-injective}
use native.Mathlib.Decide.{ℕ_discrete}
use lib.ListN.{get_elem?}
use Rattle.sup_node_gate.specs.Views.{PlacesRise}
use Rattle.sup_node_gate.proofs.HistoryListLaws.{rises_le}
use Rattle.sup_plan.specs.Sublists.{Sublist}

module _ {X : Type 0} where
  at_middle : (before : List X) (y : X) (ys : List X) → get_elem? (before ++ y ∷ ys) (length before) ≡ some y
  at_middle [] y ys = refl
  at_middle (x ∷ before) y ys = at_middle before y ys

  -- what stands at rising places behind a front stands in the rest
  stand_behind : (before ys : List X) (own : List ℕ) (es : List X) → PlacesRise (length before) own (length before + length ys) → map (get_elem? (before ++ ys)) own ≡ map some es → Sublist es ys
  stand_behind before ys own [] rises are = tt
  stand_behind before ys [] (e ∷ es) rises are = absurd cc
  stand_behind before [] (p ∷ ps) (e ∷ es) rises are = let low = rises.0 in let high = rises_le (suc p) ps _ rises.1 in absurd (omega (arith, low, high))
  stand_behind before (y ∷ ys) (p ∷ ps) (e ∷ es) rises are =
      let low = rises.0 in
      let head : get_elem? (before ++ y ∷ ys) p ≡ some e = cc in
      let tail : map (get_elem? (before ++ y ∷ ys)) ps ≡ map some es = cc in
      let longer : length (before ++ y ∷ []) ≡ length before + 1 = length-append before (y ∷ []) in
      let to : length before + suc (length ys) ≡ length (before ++ y ∷ []) + length ys = omega (arith, longer) in
      let moved : before ++ y ∷ ys ≡ (before ++ y ∷ []) ++ ys = sym (append_assoc before (y ∷ []) ys) in
      dite (ℕ_discrete p (length before))
      (λ (here : p ≡ length before).
      let from : suc p ≡ length (before ++ y ∷ []) = omega (arith, here, longer) in
      let is : some e ≡ some y = sym head ∙ ap (get_elem? (before ++ y ∷ ys)) here ∙ at_middle before y ys in
      inl (some-injective e y is, stand_behind (before ++ y ∷ []) ys ps es (subst (λ (z : ℕ × ℕ). PlacesRise z.0 ps z.1) (λ i. (from i, to i)) rises.1) (ap (λ (l : List X). map (get_elem? l) ps) (sym moved) ∙ tail)))
      (λ other.
      let past : length (before ++ y ∷ []) ≤ p = omega (arith, longer, low, other) in
      inr (stand_behind (before ++ y ∷ []) ys (p ∷ ps) (e ∷ es) (past, subst (PlacesRise (suc p) ps) to rises.1) (ap (λ (l : List X). map (get_elem? l) (p ∷ ps)) (sym moved) ∙ are)))

  pub own_stand : (seen : List X) (own : List ℕ) (es : List X) → PlacesRise 0 own (length seen) → map (get_elem? seen) own ≡ map some es → Sublist es seen
  own_stand seen own es rises are =
      let count : length seen ≡ 0 + length seen = omega arith in
      stand_behind [] seen own es (subst (PlacesRise 0 own) count rises) are
