-- What a step of the model's world leaves as it is.
use Rattle.std.specs.Prelude.{◌≡◌, ℕ, false, [], Option, Some, unwrap_or}
use Rattle.std.specs.Option.{option_map, option_and_then}
use Rattle.sup_specs.specs.Values.{Bytes}
use Rattle.sup_replica.specs.Nodes.{Message, is_named}
use Rattle.sup_model.specs.declared.step.Step.{Step}
use Rattle.sup_model.specs.declared.step.Step.TheVariants.{Node as AtNode, Deliver as Delivery, Raw}
use Rattle.sup_model.specs.Runs.{world_after}
use Rattle.sup_model.specs.Worlds.{Ops, ModelSite, ModelWorld, message_of, site_of, step}

-- the k-th message that a node has sent, from 1
abbrev pub message_sent : ModelWorld → Bytes → ℕ → Option (Message Ops)
message_sent w from k = option_and_then (λ (s : ModelSite). message_of s k) (site_of w from)

-- the node that a step comes to
abbrev pub model_comes_to : ModelWorld → Step → Bytes
model_comes_to w (AtNode at act now saves) = at
model_comes_to w (Delivery from k at drop now saves) = unwrap_or at (unwrap_or (option_map (λ (m : Message Ops). m.to) (message_sent w from k)) [])
model_comes_to w (Raw at bytes) = at

abbrev pub ModelNodesStay : Type 0
ModelNodesStay = (w : ModelWorld) (s : Step) (name : Bytes) → is_named name (model_comes_to w s) ≡ false → site_of (world_after w (step w s)) name ≡ site_of w name

abbrev pub ModelMessagesStay : Type 0
ModelMessagesStay = (w : ModelWorld) (s : Step) (from : Bytes) (k : ℕ) (m : Message Ops) → message_sent w from k ≡ Some m → message_sent (world_after w (step w s)) from k ≡ Some m
