-- A letter that comes to a node, and bytes that nobody sent (the rule of deliveries).
use Rattle.std.specs.Prelude.{◌≡◌, ℕ, ◌-◌, length, take, Option, Some, None}
use Rattle.std.specs.Option.{unwrap_or}
use mathlib.Core.Logic.{◌⊎◌}
use Rattle.sup_specs.specs.Values.{Bytes}
use Rattle.sup_tables.specs.States.{State}
use Rattle.sup_replica.specs.declared.event.Event.TheVariants.{Deliver}
use Rattle.sup_replica.specs.declared.event.Act.{Act}
use Rattle.sup_replica.specs.declared.event.Act.TheVariants.{Event as Of}
use Rattle.sup_replica.specs.declared.letter.Letter.{Letter}
use Rattle.sup_replica.specs.declared.refusal.Refusal.{Refusal}
use Rattle.sup_replica.specs.declared.refusal.Refusal.TheVariants.{Down, NoSuchMessage, BadMessage, OutOfMemory}
use Rattle.sup_replica.specs.Stations.{Station, Mail}
use Rattle.sup_node.specs.Texts.{IsReadAs}
use Rattle.sup_world.specs.CarriedSteps.{letter_of}
use Rattle.sup_world.specs.SeenNodes.{SeenNode}

-- the k-th letter, without its last bytes, comes to its receiver or to the node that is told
pub record IsComing (s : SeenNode) (k : ℕ) (at : Option Bytes) (drop : ℕ) (name : Bytes) (act : Act) : Type 0 where
  pub letter : Letter
  pub there : letter_of s k ≡ Some letter
  pub to : name ≡ unwrap_or at letter.to
  pub brings : act ≡ Of (Deliver (take (length letter.bytes - drop) letter.bytes))

-- there is no such letter, or no room for its bytes
abbrev pub IsNotComing : SeenNode → ℕ → Refusal → Type 0
IsNotComing s k r = ((r ≡ NoSuchMessage) × (letter_of s k ≡ None)) ⊎ (r ≡ OutOfMemory)

-- why a running node refuses bytes that nobody sent: they are no message; or they are one, which was not sent
abbrev pub IsUnsentRefusal : Bytes → Refusal → Type 0
IsUnsentRefusal bytes r =
    ((r ≡ BadMessage) × IsReadAs bytes None) ⊎ (((r ≡ NoSuchMessage) × ((mail : Mail State) × IsReadAs bytes (Some mail))) ⊎ (r ≡ OutOfMemory))

-- why bytes that nobody sent are refused: the node is stopped, or as a running node refuses them
abbrev pub IsRawRefusal : Option (Station State) → Bytes → Refusal → Type 0
IsRawRefusal None bytes r = r ≡ Down
IsRawRefusal (Some n) bytes r = IsUnsentRefusal bytes r
