-- The greatest counter of a node in a list of dots (Almeida, Shoker, Baquero 2018: the next dot of a node follows it).
use Rattle.std.specs.Prelude.{ℕ, max, List, [], ◌∷◌, map, filter}
use Rattle.std.specs.Ordering.{eq_by_cmp}
use Rattle.sup_specs.specs.Values.{text_cmp}
use Rattle.sup_causal.specs.declared.dot.Dot.{Dot}

abbrev pub greatest_of : List ℕ → ℕ
greatest_of [] = 0
greatest_of (n ∷ ns) = max n (greatest_of ns)

-- 0 where there is no dot of the node
abbrev pub greatest_in : List Dot → List ℕ → ℕ
greatest_in dots node = greatest_of (map (λ d. d.counter) (filter (λ d. eq_by_cmp text_cmp node d.node) dots))
