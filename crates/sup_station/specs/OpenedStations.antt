-- A station that was just made, and how saves are refused.
use Rattle.std.specs.Prelude.{◌≡◌, Some}
use Rattle.sup_specs.specs.Values.{Bytes}
use Rattle.sup_replica.specs.Configs.{Config}
use Rattle.sup_replica.specs.declared.refusal.Refusal.{Refusal}
use Rattle.sup_replica.specs.declared.refusal.Refusal.TheVariants.{KeepFailed, OutOfMemory}
use Rattle.sup_node.specs.Changes.{image_of}
use Rattle.sup_node.specs.NodeSteps.{fresh_station}
use Rattle.sup_node.specs.Texts.{IsImageText}
use Rattle.sup_keeper.specs.Keeping.{Kept}
use Rattle.sup_station.specs.KeptStations.{KeptStation}
use Rattle.sup_keeper.specs.declared.keeper.KeepFault.{KeepFault}
use Rattle.sup_keeper.specs.declared.keeper.KeepFault.TheVariants.{Failed, OutOfMemory as NoMemory}

-- a node that was just made runs, and its image is kept
pub record OpensStation (name : Bytes) (config : Config) (s : KeptStation) : Type 0 where
  pub named : s.name ≡ name
  pub set : s.config ≡ config
  pub runs : s.node ≡ Some (fresh_station name config)
  pub keeps : IsImageText s.kept (image_of (fresh_station name config).node)

-- what a keeper's fault is told as
abbrev pub refusal_of : KeepFault → Refusal
refusal_of Failed = KeepFailed
refusal_of NoMemory = OutOfMemory

-- a refusal that a keeper's fault is told as
abbrev pub IsKeepRefusal : Refusal → Type 0
IsKeepRefusal r = (fault : KeepFault) × (r ≡ refusal_of fault)

-- the bytes that a keeper in memory keeps
abbrev pub kept_by : Kept → Bytes
kept_by k = k.bytes
