-- Values by dot, as the list of their entries (this project). `DotsRise` says that the dots rise.
use Rattle.std.specs.Prelude.{List, Option}
use Rattle.std.specs.Map.{lookup, keys_of}
use Rattle.std.specs.BTreeMap.{is_at}
use Rattle.std.specs.List.Sorted.{IsStrictlySortedBy}
use Rattle.sup_causal.specs.declared.dot.Dot.{Dot}
use Rattle.sup_causal.specs.Dots.{dot_cmp}

pub record ByDot (V : Type 0) : Type 0 where
  pub entries : List (Dot × V)

-- the value at a dot
abbrev pub at_dot : {V : Type 0} → ByDot V → Dot → Option V
at_dot m d = lookup (is_at (dot_cmp d)) m.entries

-- the dots rise
abbrev pub DotsRise : {V : Type 0} → ByDot V → Type 0
DotsRise m = IsStrictlySortedBy dot_cmp (keys_of m.entries)
