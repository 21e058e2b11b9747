use Rattle.std.proofs.Common.{◌≡◌, ◌≤◌, ℕ, ◌++◌, List, length, map, All}
use Rattle.std.specs.Prelude.{◌⊎◌, Contains}
use Rattle.std.specs.List.{AllZip}
use Rattle.sup_posts.specs.Jobs.{Seat, IsSeatOf}
use Rattle.sup_posts.specs.Drives.{passes_to}
use Rattle.sup_run_ends.specs.Passes.{of_arrived, AreMadeBy}
use Rattle.sup_run_ends.specs.Steps.{IsArrived, IsHistoryOf, BeginsWithSeen, EndsHistory}
use Rattle.sup_run_ends.proofs.closing.close_all.Given as goal

abbrev pub invariant-loop-post : goal.invariant-loop-post
invariant-loop-post g l =
    (l.yielded ++ l.post-iterator.rest.items ≡ l.initial.post-iterator.rest.items)
    × AllZip IsSeatOf l.post-iterator.rest.items l.seats.rest.items
    × AllZip (IsHistoryOf g.W.Weigh.weight_of) l.yielded l.histories.items
    × ((gone : List (Seat g.row.W.Denot g.W.Weigh)) × (gone ++ l.seats.rest.items ≡ l.initial.seats.rest.items) × AllZip BeginsWithSeen gone l.histories.items × AreMadeBy gone l.fn.arrived.items l.histories.items)
    × All (IsArrived l.initial.post-iterator.rest.items) l.arrived.items
    × All (λ a. length l.histories.items ≤ a.to) l.arrived.items
    × All (λ a. EndsHistory l.histories.items a ⊎ Contains l.arrived.items a) l.fn.arrived.items
    × ((j : ℕ) → length l.histories.items ≤ j → passes_to j (map of_arrived l.arrived.items) ≡ passes_to j (map of_arrived l.fn.arrived.items))
