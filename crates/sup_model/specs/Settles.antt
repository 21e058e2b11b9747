-- The steps of settling (this project), as steps of the model world: an exchange is a ship that the receiver knew all of, or one that is delivered and acknowledged at once.
use Rattle.std.specs.Prelude.{ℕ, ◌≡◌, ◌⊎◌, true, List, [], ◌∷◌, Option, Some, None, Ok}
use Rattle.std.specs.Option.{option_map}
use Rattle.sup_specs.specs.Values.{Bytes}
use Rattle.sup_replica.specs.declared.event.Act.TheVariants.{Event as Of}
use Rattle.sup_replica.specs.declared.event.Event.TheVariants.{Ship}
use Rattle.sup_model.specs.declared.step.Step.TheVariants.{Node as AtNode, Deliver as Delivery}
use Rattle.sup_model.specs.Worlds.{Ops, ModelWorld, WorldStepped, step, site_of}
use Rattle.sup_model.specs.Runs.{IsCoveredShip}

-- what a node absorbed
abbrev pub known_at : ModelWorld → Bytes → Option Ops
known_at w name = option_map (λ s. s.node.known) (site_of w name)

-- a ship of a to b, its delivery, and the delivery of the acknowledgement
pub record SentAndAnswered (w : ModelWorld) (a b : Bytes) (w' : ModelWorld) : Type 0 where
  pub ship : WorldStepped
  pub k : ℕ
  pub came : WorldStepped
  pub n : ℕ
  pub told : WorldStepped
  pub ships : step w (AtNode a (Of (Ship b)) 0 true) ≡ Ok ship
  pub number : ship.answer.number ≡ Some k
  pub comes : step ship.world (Delivery a k None 0 0 true) ≡ Ok came
  pub answered : came.answer.number ≡ Some n
  pub tells : step came.world (Delivery b n None 0 0 true) ≡ Ok told
  pub ends : w' ≡ told.world

abbrev pub Exchanged : ModelWorld → Bytes → Bytes → ModelWorld → Type 0
Exchanged w a b w' = SentAndAnswered w a b w' ⊎ (IsCoveredShip w a b × (w' ≡ w))

-- each of the others to the first
abbrev pub GatheredAtFirst : ModelWorld → Bytes → List Bytes → ModelWorld → Type 0
GatheredAtFirst w first [] w' = w' ≡ w
GatheredAtFirst w first (name ∷ names) w' = (mid : ModelWorld) × Exchanged w name first mid × GatheredAtFirst mid first names w'

-- the first to each of the others
abbrev pub SpreadToOthers : ModelWorld → Bytes → List Bytes → ModelWorld → Type 0
SpreadToOthers w first [] w' = w' ≡ w
SpreadToOthers w first (name ∷ names) w' = (mid : ModelWorld) × Exchanged w first name mid × SpreadToOthers mid first names w'

-- settling: each of the others to the first, then the first to each of them
abbrev pub WorldSettles : ModelWorld → Bytes → List Bytes → ModelWorld → Type 0
WorldSettles w first names w' = (mid : ModelWorld) × GatheredAtFirst w first names mid × SpreadToOthers mid first names w'
