-- What a contract sees of a world: of each node its station, how often its keeper has failed, and every letter that it ever sent.
use Rattle.std.specs.Prelude.{◌≡◌, ◌≤◌, ◌<◌, ◌+◌, ℕ, All, List, ◌∷◌, [], ◌++◌, length, map, Option, Some, None, Result, Err}
use Rattle.sup_specs.specs.Values.{Bytes}
use Rattle.sup_replica.specs.declared.letter.Letter.{Letter}
use Rattle.sup_replica.specs.declared.refusal.Refusal.{Refusal}
use Rattle.sup_replica.specs.declared.refusal.Refusal.TheVariants.{KeepFailed}
use Rattle.sup_keeper.specs.Keeping.{most}
use Rattle.sup_station.specs.OpenedStations.{kept_by}
use Rattle.sup_station.specs.KeptStations.{KeptStation, kept_station_of, keeper_of}
use Rattle.sup_world.specs.declared.simulated_node.SimulatedNode.{SimulatedNode}
use Rattle.sup_world.specs.declared.state.World.{World}

pub record SeenNode : Type 0 where
  pub name : Bytes
  pub kept_station : KeptStation
  pub failures : ℕ
  pub letters : List Letter  -- oldest first

abbrev pub seen_node_of : {W : Type 0} {h : _} → SimulatedNode W h → SeenNode
seen_node_of s = record { name = s.name; kept_station = kept_station_of kept_by s.station; failures = (keeper_of s.station).failures; letters = s.letters.items }

abbrev pub seen_all : {W : Type 0} {h : _} → List (SimulatedNode W h) → List SeenNode
seen_all sites = map seen_node_of sites

abbrev pub sites_of : {W : Type 0} {h : _} → World W h → List SeenNode
sites_of w = seen_all w.sites.items

-- with a letter more, if there is one
abbrev pub with_letter : List Letter → Option Letter → List Letter
with_letter letters None = letters
with_letter letters (Some letter) = letters ++ letter ∷ []

-- the number of the newest, if a letter is put there
abbrev pub numbered : List Letter → Option Letter → Option ℕ
numbered letters None = None
numbered letters (Some letter) = Some (length letters)

-- all but how often its keeper failed
pub record IsAsBefore (old new : SeenNode) : Type 0 where
  pub kept_station : new.kept_station ≡ old.kept_station
  pub letters : new.letters ≡ old.letters

-- its keeper failed once more, or no more
abbrev pub FailedOnceAtMost : SeenNode → SeenNode → Type 0
FailedOnceAtMost old new = (old.failures ≤ new.failures) × (new.failures ≤ old.failures + 1)

-- it didn't fail
abbrev pub FailedNoMore : SeenNode → SeenNode → Type 0
FailedNoMore old new = new.failures ≡ old.failures

-- each keeper can count one failure more
abbrev pub CanFail : List SeenNode → Type 0
CanFail sites = All (λ s. s.failures < most) sites

-- where it failed, the answer tells that
abbrev pub IsTold : {A : Type 0} → Result A Refusal → SeenNode → SeenNode → Type 0
IsTold answer old new = old.failures < new.failures → answer ≡ Err KeepFailed
