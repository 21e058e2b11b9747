-- The passes of a run, each with the place of the node of whose gate it is, and what they have of these gates.
use Rattle.std.specs.Prelude.{◌≡◌, ℕ, List, [], ◌∷◌, ◌++◌, map, slice_get, Some}
use mathlib.Core.Option as M
use mathlib.Core.Option.{some}
use Rattle.sup_placement.specs.declared.weigh.Weigh.{Ghosts as WeighGhosts}
use Rattle.sup_node_gate.specs.declared.entry.Entry.{Entry}
use Rattle.sup_node_gate.specs.Gates.{view_of}
use Rattle.sup_node_gate.specs.Shares.{IsWhole}
use Rattle.sup_node_gate.specs.Shuffles.{IsShuffleOf}
use Rattle.sup_node_gate.specs.Views.{calls_of, first, second}
use Rattle.sup_plan.specs.declared.histories.History.{History}
use Rattle.sup_posts.specs.Jobs.{Seat}
use Rattle.sup_posts.specs.Drives.{IsFresh, passes_to, shares_of}
use Rattle.sup_posts.specs.declared.jobs.Arrived.{Arrived}

module _ {W : Type 0} {h : WeighGhosts W} where
  abbrev pub of_arrived : Arrived W h → ℕ × Seat W h
  of_arrived a = (a.to, a.seat)

  -- the own calls of each
  abbrev pub calls_by : List (Seat W h) → List (List (M.Option Entry))
  calls_by = map (λ s. calls_of (view_of s))

  -- the one pass of a gate that was just made
  pub record IsFirst (seat : Seat W h) : Type 0 where
    pub fresh : IsFresh seat
    pub whole : IsWhole (view_of seat).shares

  -- of a pass nothing was cut off, or the one pass of these
  abbrev pub IsCutOff : Seat W h → Seat W h → List (Seat W h) → Type 0
  IsCutOff seat kept [] = kept ≡ seat
  IsCutOff seat kept (s ∷ []) = (view_of kept ≡ first (view_of seat)) × (view_of s ≡ second (view_of seat))
  IsCutOff seat kept (s ∷ t ∷ more) = ⊥

  -- what was cut off each of the passes stands in the row
  abbrev pub AreCutOff : List (Seat W h) → List (Seat W h) → List (ℕ × Seat W h) → Type 0
  AreCutOff seats kept row = (j : ℕ) (seat rest : Seat W h) → slice_get seats j ≡ Some seat → slice_get kept j ≡ Some rest → IsCutOff seat rest (passes_to j row)

  -- where these passes have all of a gate, the history is a shuffle of their own calls
  abbrev pub IsMadeBy : Seat W h → List (Seat W h) → History → Type 0
  IsMadeBy seat others history = IsWhole ((view_of seat).shares ++ shares_of others) → IsShuffleOf (calls_of (view_of seat)) (calls_by others) (map some history.entries.items)

  -- the same of each node: the passes at its place, and the history there
  abbrev pub AreMadeBy : List (Seat W h) → List (Arrived W h) → List History → Type 0
  AreMadeBy seats arrived all = (j : ℕ) (seat : Seat W h) (history : History) → slice_get seats j ≡ Some seat → slice_get all j ≡ Some history → IsMadeBy seat (passes_to j (map of_arrived arrived)) history
