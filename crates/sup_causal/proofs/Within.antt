-- Parts beside others: that one pair's dots are the other's, and a node's greatest.
use Rattle.std.proofs.Common.{◌≡◌, ℕ, ◌+◌, ◌<◌, ◌≤◌, Bool, true, false, ◌||◌, leb, List, refl, sym, ap, ◌∙◌, subst, arith, inl, inr}
use Rattle.std.specs.Prelude.{max}
use Rattle.std.proofs.lemmas.Bool.{or_cases, or_right, and_parts, leb-true, cases_lt}
use mathlib.Core.Bool.{false≢true}
use Rattle.sup_specs.specs.Rising.{among}
use Rattle.sup_causal.specs.declared.dot.Dot.{Dot}
use Rattle.sup_causal.specs.Dots.{dot_cmp, IsGreatest}
use Rattle.sup_causal.specs.Cut.{entry, IsRun, IsCanonical, in_parts}
use Rattle.sup_causal.proofs.CutLaws.{runs_are}
use Rattle.sup_causal.specs.Parts.{in_vector}
use Rattle.sup_causal.proofs.Cuts.{in_its_run}

-- ---- one pair within another
in_run_of : (v : List (List ℕ × ℕ)) (d : Dot) → in_vector v d ≡ true → (1 ≤ d.counter) × (d.counter ≤ entry v d.node)
in_run_of v d run = let both = and_parts (leb 1 d.counter) (leb d.counter (entry v d.node)) run in (leb-true _ _ both.0, leb-true _ _ both.1)

module _ (v w : List (List ℕ × ℕ)) (c e : List Dot) where
  pub parts_within : ((q : List ℕ) → entry v q ≤ entry w q) → ((d : Dot) → among dot_cmp c d ≡ true → in_parts w e d ≡ true) → (d : Dot) → in_parts v c d ≡ true → in_parts w e d ≡ true
  parts_within runs cloud d there = elim (or_cases (in_vector v d) (among dot_cmp c d) there) [
    | inl run ↦ let at = in_run_of v d run in in_its_run w e d at.0 (omega (arith, at.1, runs d.node))
    | inr rest ↦ cloud d rest
  ]

  -- the dot after a run is missing, so no run within is longer
  pub runs_from_within : IsCanonical w e → ((d : Dot) → in_parts v c d ≡ true → in_parts w e d ≡ true) → (q : List ℕ) → entry v q ≤ entry w q
  runs_from_within canonical within q = elim (cases_lt (entry w q) (entry v q)) [
    | inl lt ↦
        let run : IsRun (in_parts w e) q (entry w q) = runs_are (in_parts w e) w e canonical (λ d. refl) q in
        absurd (false≢true (sym run.next_missing ∙ within (record { counter = entry w q + 1; node = q }) (in_its_run v c (record { counter = entry w q + 1; node = q }) (omega arith) (omega (arith, lt)))))
    | inr ge ↦ ge
  ]

pub or_four : (a b c d : Bool) → ((a || b) || (c || d)) ≡ ((a || c) || (b || d))
or_four true b c d = refl
or_four false true true d = refl
or_four false true false d = refl
or_four false false c d = refl

-- ---- a node's greatest counter
pub greatest_parts : (v : List (List ℕ × ℕ)) (c : List Dot) (node : List ℕ) (n : ℕ) → IsGreatest (among dot_cmp c) node n → IsGreatest (in_parts v c) node (max n (entry v node))
greatest_parts v c node n g = record { bound = bound; reached = reached }
  where
    bound : (d : Dot) → d.node ≡ node → in_parts v c d ≡ true → d.counter ≤ max n (entry v node)
    bound d mine there = elim (or_cases (in_vector v d) (among dot_cmp c d) there) [
      | inl run ↦ let at = in_run_of v d run in let is : entry v d.node ≡ entry v node = ap (entry v) mine in omega (arith, at.1, is)
      | inr rest ↦ let le : d.counter ≤ n = g.bound d mine rest in omega (arith, le)
    ]

    reached : 0 < max n (entry v node) → in_parts v c (record { counter = max n (entry v node); node = node }) ≡ true
    reached some = elim (cases_lt n (entry v node)) [
      | inl lt ↦ in_its_run v c (record { counter = max n (entry v node); node = node }) (omega (arith, some)) (omega (arith, lt))
      | inr ge ↦
          let is : max n (entry v node) ≡ n = omega (arith, ge) in
          subst (λ t. in_parts v c (record { counter = t; node = node }) ≡ true) (sym is) (or_right (in_vector v (record { counter = n; node = node })) _ (g.reached (omega (arith, some, is))))
    ]
