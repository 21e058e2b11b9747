-- The bars and gaps of a log (this project): a bar for each run of a child at the node where it began, and a gap for each time
-- that a node was down.
use Rattle.std.specs.Prelude.{ℕ, Bool, false, true, ◌==◌, ◌&&◌, List, [], ◌∷◌, ◌++◌, find, bytes_eq, Option}
use Rattle.std.specs.Option.{option_map}
use Rattle.sup_specs.specs.Values.{Bytes}
use Rattle.sup_picture.specs.declared.bars.Bar.{Bar}
use Rattle.sup_picture.specs.declared.gaps.Gap.{Gap}
use Rattle.sup_picture.specs.declared.log.Change.{Change}
use Rattle.sup_picture.specs.declared.log.ChildRun.{ChildRun}
use Rattle.sup_picture.specs.declared.log.Turn.{Turn}
use Rattle.sup_picture.specs.declared.log.Turn.TheVariants.{Began, Ended, Down, Up}

-- the same run of the same child
abbrev pub is_of : ChildRun → ChildRun → Bool
is_of run other = ((run.boot == other.boot) && (run.k == other.k)) && bytes_eq run.child other.child

-- a turn that ends a run at its node: the run ended, or the node stopped
abbrev pub turn_ends : ChildRun → Turn → Bool
turn_ends run (Began other) = false
turn_ends run (Ended other) = is_of run other
turn_ends run Down = true
turn_ends run Up = false

abbrev pub ends : Bytes → ChildRun → Change → Bool
ends node run change = bytes_eq change.node node && turn_ends run change.turn

-- the row in which a run ends
abbrev pub end_row : Bytes → ChildRun → List Change → Option ℕ
end_row node run later = option_map (λ c. c.row) (find (ends node run) later)

-- the bar of a run that began with this change
abbrev pub bar_of : Change → ChildRun → List Change → Bar
bar_of change run later = record {
  node = change.node;
  child = run.child;
  boot = run.boot;
  k = run.k;
  began = change.row;
  ended = end_row change.node run later;
}

-- the bar that begins with a change, if one does
abbrev pub bar_at : Change → Turn → List Change → List Bar
bar_at change (Began run) later = bar_of change run later ∷ []
bar_at change (Ended run) later = []
bar_at change Down later = []
bar_at change Up later = []

-- a bar for each run that begins, to the first later change that ends it
abbrev pub bars_of : List Change → List Bar
bars_of [] = []
bars_of (change ∷ later) = bar_at change change.turn later ++ bars_of later

abbrev pub turn_up : Turn → Bool
turn_up (Began run) = false
turn_up (Ended run) = false
turn_up Down = false
turn_up Up = true

abbrev pub comes_up : Bytes → Change → Bool
comes_up node change = turn_up change.turn && bytes_eq change.node node

-- the row in which a node runs again
abbrev pub up_row : Bytes → List Change → Option ℕ
up_row node later = option_map (λ c. c.row) (find (comes_up node) later)

abbrev pub gap_of : Change → List Change → Gap
gap_of change later = record { node = change.node; down = change.row; up = up_row change.node later }

-- the gap that begins with a change, if one does
abbrev pub gap_at : Change → Turn → List Change → List Gap
gap_at change (Began run) later = []
gap_at change (Ended run) later = []
gap_at change Down later = gap_of change later ∷ []
gap_at change Up later = []

-- a gap for each time that a node stops, to the first later change by which it runs again
abbrev pub gaps_of : List Change → List Gap
gaps_of [] = []
gaps_of (change ∷ later) = gap_at change change.turn later ++ gaps_of later
