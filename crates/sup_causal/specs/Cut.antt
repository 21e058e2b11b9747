-- The cut of a set of dots into a version vector and a dot cloud (Almeida, Shoker, Baquero 2018).
use Rattle.std.specs.Prelude.{◌≡◌, ℕ, ◌+◌, ◌<◌, ◌≤◌, Bool, true, false, ◌||◌, ◌&&◌, List, unwrap_or, ◌↔◌, nat_le}
use Rattle.std.specs.List.{AllByRecursion, list_any}
use Rattle.std.specs.Map.{lookup, keys_of}
use Rattle.std.specs.Ordering.{eq_by_cmp}
use Rattle.sup_specs.specs.Values.{text_cmp}
use Rattle.std.specs.List.Sorted.{IsStrictlySortedBy}
use Rattle.sup_specs.specs.Rising.{among}
use Rattle.sup_causal.specs.Dots.{dot_cmp, IsCounted}
use Rattle.sup_causal.specs.declared.dot.Dot.{Dot}
use Rattle.sup_specs.specs.declared.limits.TheConstants.{MAX}

-- a node's entry in a vector, 0 where the vector leaves the node out
abbrev pub entry : List (List ℕ × ℕ) → List ℕ → ℕ
entry vector node = unwrap_or (lookup (eq_by_cmp text_cmp node) vector) 0

-- n is the greatest number such that all of the node's dots 1 to n pass the test
pub record IsRun (holds : Dot → Bool) (node : List ℕ) (n : ℕ) : Type 0 where
  pub all_there : (k : ℕ) → 1 ≤ k → k ≤ n → holds (record { counter = k; node = node }) ≡ true
  pub next_missing : holds (record { counter = n + 1; node = node }) ≡ false

-- by name, the run of each node, left out where 0
pub record IsVector (holds : Dot → Bool) (vector : List (List ℕ × ℕ)) : Type 0 where
  pub by_name : IsStrictlySortedBy text_cmp (keys_of vector)
  pub runs : (node : List ℕ) → IsRun holds node (entry vector node)
  pub left_out : AllByRecursion (λ e. 1 ≤ e.1) vector

-- in dot order, the dots beyond the run of their node
pub record IsCloud (holds : Dot → Bool) (cloud : List Dot) : Type 0 where
  pub in_order : IsStrictlySortedBy dot_cmp cloud
  pub beyond : (d : Dot) → (among dot_cmp cloud d ≡ true) ↔ ((holds d ≡ true) × ((n : ℕ) → IsRun holds d.node n → n < d.counter))

-- no set of counted dots has this vector and this cloud
abbrev pub IsNoCut : List (List ℕ × ℕ) → List Dot → Type 0
IsNoCut vector cloud = (holds : Dot → Bool) → ((d : Dot) → holds d ≡ true → IsCounted d) → IsVector holds vector → IsCloud holds cloud → ⊥

-- what makes a vector and a cloud canonical
pub record IsCanonical (vector : List (List ℕ × ℕ)) (cloud : List Dot) : Type 0 where
  pub by_name : IsStrictlySortedBy text_cmp (keys_of vector)
  pub entries : AllByRecursion (λ e. (1 ≤ e.1) × (e.1 ≤ MAX)) vector
  pub in_order : IsStrictlySortedBy dot_cmp cloud
  pub apart : AllByRecursion (λ d. (entry vector d.node + 2 ≤ d.counter) × (d.counter ≤ MAX)) cloud

-- whether a dot is one of the node's first n
abbrev pub in_run : List ℕ → ℕ → Dot → Bool
in_run node n d = eq_by_cmp text_cmp d.node node && (nat_le 1 d.counter && nat_le d.counter n)

-- whether a dot is in the run that an entry of its node gives
abbrev pub in_runs : List (List ℕ × ℕ) → Dot → Bool
in_runs vector d = list_any (λ e. in_run e.0 e.1 d) vector

-- whether a vector and a cloud have a dot
abbrev pub in_parts : List (List ℕ × ℕ) → List Dot → Dot → Bool
in_parts vector cloud d = (nat_le 1 d.counter && nat_le d.counter (entry vector d.node)) || among dot_cmp cloud d
