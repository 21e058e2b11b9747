-- The dots of a version vector and a dot cloud (Almeida, Shoker, Baquero 2018).
use Rattle.std.specs.Prelude.{ℕ, zero, suc, ◌+◌, ◌≤◌, Bool, ◌&&◌, List, [], ◌∷◌, ◌++◌, nat_le}
use Rattle.std.specs.List.{AllByRecursion}
use Rattle.std.specs.Map.{keys_of}
use Rattle.sup_specs.specs.Values.{text_cmp}
use Rattle.std.specs.List.Sorted.{IsStrictlySortedBy}
use Rattle.sup_specs.specs.Rising.{rising}
use Rattle.sup_specs.specs.declared.limits.TheConstants.{MAX}
use Rattle.sup_causal.specs.declared.dot.Dot.{Dot}
use Rattle.sup_causal.specs.Dots.{dot_cmp, Context}
use Rattle.sup_causal.specs.Cut.{entry}

-- by name, an entry from 1 to MAX for each node that has one
pub record IsVersions (vector : List (List ℕ × ℕ)) : Type 0 where
  pub by_name : IsStrictlySortedBy text_cmp (keys_of vector)
  pub entries : AllByRecursion (λ e. (1 ≤ e.1) × (e.1 ≤ MAX)) vector

-- whether a vector has a dot
abbrev pub in_vector : List (List ℕ × ℕ) → Dot → Bool
in_vector vector d = nat_le 1 d.counter && nat_le d.counter (entry vector d.node)

-- the dots of a node's run
abbrev pub run_dots : List ℕ → ℕ → List Dot
run_dots node zero = []
run_dots node (suc n) = record { counter = suc n; node = node } ∷ run_dots node n

-- the dots of all runs
abbrev pub runs_dots : List (List ℕ × ℕ) → List Dot
runs_dots [] = []
runs_dots (e ∷ es) = run_dots e.0 e.1 ++ runs_dots es

-- the context that a vector and a cloud are the cut of
unfoldable pub dots_of : List (List ℕ × ℕ) → List Dot → Context
dots_of vector cloud = rising dot_cmp (runs_dots vector ++ cloud)

-- how many dots all runs have
abbrev pub total_of : List (List ℕ × ℕ) → ℕ
total_of [] = 0
total_of (e ∷ es) = e.1 + total_of es
