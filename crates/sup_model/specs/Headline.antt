-- The main theorem, said of the model world (this project).
use Rattle.std.specs.Prelude.{◌≡◌, ◌≢◌, Bool, true, false, List, [], map, Contains, AllPairs, Result}
use Rattle.std.specs.List.{AllByRecursion, list_all, IsDistinct}
use Rattle.std.specs.Map.{keys_of}
use Rattle.std.specs.Str.{bytes_eq}
use Rattle.sup_specs.specs.Values.{Bytes}
use Rattle.sup_causal.specs.declared.dot.Dot.{Dot}
use Rattle.sup_tables.specs.declared.row.Row.{Row}
use Rattle.sup_tables.specs.Rows.{table_of, key_of}
use Rattle.sup_tables.specs.States.{State}
use Rattle.sup_tables.specs.Operations.{known, named, added, live, SameOperations}
use Rattle.sup_tables.specs.Readers.{eligible, entries}
use Rattle.sup_tables.specs.Stored.{child_row}
use Rattle.sup_placement.specs.Place.{Weigher, place}
use Rattle.sup_local_sup.specs.Keeping.{KeptChild, is_wanted, is_kept}
use Rattle.sup_replica.specs.declared.refusal.Refusal.{Refusal}
use Rattle.sup_replica.specs.ByTables.{by_tables}
use Rattle.sup_replica.specs.Nodes.{Node, by_operations}
use Rattle.sup_replica.specs.Steps.{wanted}
use Rattle.sup_model.specs.declared.step.Step.{Step}
use Rattle.sup_model.specs.Clean.{HasRow}
use Rattle.sup_model.specs.Fitting.{fits_at}
use Rattle.sup_model.specs.Follows.{WorldStandsFor}
use Rattle.sup_model.specs.Posts.{RealWorld}
use Rattle.sup_model.specs.Refines.{WorldStands}
use Rattle.sup_model.specs.Runs.{ModelRun, all_issued, new_dots}
use Rattle.sup_model.specs.Starts.{runs_of, started_at}
use Rattle.sup_model.specs.TableViews.{table_view}
use Rattle.sup_model.specs.Worlds.{WorldSetting, Ops, ModelWorld, ModelSite, ModelAnswer, new}

-- nodes that absorbed the same operations agree: the same known dots and live entries, so the same winners and losers, and each child on one same member
pub record NodesAgree (weigher : Weigher) (a b : Node Ops) : Type 0 where
  pub dots : (d : Dot) → known a.known d ≡ known b.known d
  pub rows : live a.known ≡ live b.known
  pub placed : (id : Bytes) → place weigher (eligible (live a.known)) id ≡ place weigher (eligible (live b.known)) id

-- an add that no absorbed removal names is a winner or a loser of its key
abbrev pub AddsStay : Node Ops → Type 0
AddsStay n = (r : Row) → Contains (added n.known) r → named n.known r.dot ≡ false → Contains (entries (live n.known) (table_of r.entry) (key_of r.entry)) r

-- the row that adds a kept child
abbrev pub kept_row : KeptChild → Row
kept_row k = child_row k.0 k.1.dot k.1.spec

-- each kept child has the specification that it was added with, under its dot
abbrev pub KeepsAdded : Ops → List KeptChild → Type 0
KeepsAdded ops = AllByRecursion (λ (k : KeptChild). HasRow ops (kept_row k))

-- an up node keeps exactly the children placed on it, each once and as it was added
pub record KeepsExactly (s : Weigher) (n : Node Ops) : Type 0 where
  pub none_more : list_all (is_wanted (wanted by_operations s n)) n.supervisor.kept ≡ true
  pub none_less : list_all (is_kept n.supervisor.kept) (wanted by_operations s n) ≡ true
  pub once : IsDistinct bytes_eq (keys_of n.supervisor.kept)
  pub added : KeepsAdded n.known n.supervisor.kept

-- what holds of the world that these steps, answered so, lead to from a new one; its nodes issued these operations
pub record Headline (steps : List Step) (answers : List (Result ModelAnswer Refusal)) (w : ModelWorld) (issued : Ops) : Type 0 where
  -- what the code has of a node stands for what the node absorbed, wherever the code's world stands for this one
  pub stands : (real : RealWorld State) → WorldStandsFor real w → WorldStands by_tables table_view real w
  pub agree : (a b : ModelSite) → Contains w.sites a → Contains w.sites b → SameOperations a.node.known b.node.known → NodesAgree w.weigher a.node b.node
  pub stays : (a : ModelSite) → Contains w.sites a → AddsStay a.node
  pub keeps : (a : ModelSite) → Contains w.sites a → a.node.up ≡ true → KeepsExactly w.weigher a.node
  -- each in the run, and all in the order, in which its effects started them
  pub starts : (a : ModelSite) → Contains w.sites a → runs_of a.node.supervisor.kept ≡ started_at a.node.name [] steps answers
  -- and these fit what runs: a stop is of a run that does, a start of a child of which none does
  pub fits : (a : ModelSite) → Contains w.sites a → fits_at a.node.name [] steps answers ≡ true
  -- no two operations add the same dot
  pub once : AllPairs (λ (d e : Dot). d ≢ e) (map (λ r. r.dot) (added issued))

-- after any list of steps from a new world, answered as they may be, want of memory and ships that are up to date among them
abbrev pub MainTheorem : Type 0
MainTheorem =
    (setting : WorldSetting) (is_message : Bytes → Bool) (names : List Bytes) (steps : List Step) (answers : List (Result ModelAnswer Refusal)) (w : ModelWorld)
    (run : ModelRun (new setting is_message names) steps answers w)
    → Headline steps answers w (all_issued (new setting is_message names) steps answers w run)

-- the dots that its replies tell are those of the operations that it adds, one after another
abbrev pub RepliesTellDots : Type 0
RepliesTellDots =
    (setting : WorldSetting) (is_message : Bytes → Bool) (names : List Bytes) (steps : List Step) (answers : List (Result ModelAnswer Refusal)) (w : ModelWorld)
    (run : ModelRun (new setting is_message names) steps answers w)
    → new_dots answers ≡ map (λ r. r.dot) (added (all_issued (new setting is_message names) steps answers w run))
