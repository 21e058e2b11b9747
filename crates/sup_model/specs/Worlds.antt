-- The model world (this project): nodes, and every message that each ever sent, of which any may come, once, often or never.
use Rattle.std.specs.Prelude.{ℕ, ◌+◌, ◌-◌, ◌==◌, Bool, true, not, List, [], ◌∷◌, ◌++◌, length, map, find, is_some, slice_get, Option, Some, None, Result, Ok, Err, unwrap_or, if◌then◌else◌}
use Rattle.sup_specs.specs.Values.{Bytes}
use Rattle.sup_tables.specs.Operations.{Operation}
use Rattle.sup_replica.specs.declared.event.Event.TheVariants.{Ship, Push}
use Rattle.sup_replica.specs.declared.event.Act.TheVariants.{Event as Of}
use Rattle.sup_replica.specs.declared.event.Act.{Act}
use Rattle.sup_replica.specs.declared.refusal.Refusal.{Refusal}
use Rattle.sup_replica.specs.declared.refusal.Refusal.TheVariants.{Down, UnknownNode, NoSuchMessage, BadMessage}
use Rattle.sup_replica.specs.Checks.{refused_if, then_do}
use Rattle.sup_placement.specs.Place.{Weigher}
use Rattle.sup_replica.specs.Nodes.{Node, Message, ToldOutcome, ActOutcome, by_operations, is_named, fresh}
use Rattle.sup_replica.specs.Acts.{act_step, deliver, kept_by}
use Rattle.sup_model.specs.declared.step.Step.{Step}
use Rattle.sup_model.specs.declared.step.Step.TheVariants.{Node as AtNode, Deliver as Delivery, Raw}

-- what is set when a world is made
pub record WorldSetting : Type 0 where
  pub weigher : Weigher
  pub intensity : ℕ
  pub period : ℕ

-- what a node of the model knows: the operations that it absorbed
abbrev pub Ops : Type 0
Ops = List Operation

-- a node with all that it ever sent, oldest first
pub record ModelSite : Type 0 where
  pub node : Node Ops
  pub sent : List (Message Ops)

pub record ModelWorld : Type 0 where
  pub weigher : Weigher
  pub is_message : Bytes → Bool  -- which texts are messages at all
  pub sites : List ModelSite

-- an answer says where it was given, and which number its letter has at that node
pub record ModelAnswer : Type 0 where
  pub at : Bytes
  pub done : ToldOutcome
  pub number : Option ℕ

pub record WorldStepped : Type 0 where
  pub answer : ModelAnswer
  pub world : ModelWorld

abbrev pub site_of : ModelWorld → Bytes → Option ModelSite
site_of w name = find (λ s. is_named name s.node.name) w.sites

abbrev pub with_site : ModelWorld → ModelSite → ModelWorld
with_site w site = record w { sites = map (λ s. if is_named site.node.name s.node.name then site else s) w.sites }

-- the k-th message that a node sent, from 1
abbrev pub message_of : ModelSite → ℕ → Option (Message Ops)
message_of site k = if k == 0 then None else slice_get site.sent (k - 1)

abbrev pub or_refused : {A B : Type 0} → Option A → Refusal → (A → Result B Refusal) → Result B Refusal
or_refused None refusal next = Err refusal
or_refused (Some a) refusal next = next a

abbrev pub posted : List (Message Ops) → Option (Message Ops) → List (Message Ops)
posted sent None = sent
posted sent (Some m) = sent ++ m ∷ []

abbrev pub number_of : List (Message Ops) → Option (Message Ops) → Option ℕ
number_of sent None = None
number_of sent (Some m) = Some (length sent + 1)

-- the world after one node's act: that node is changed, and its letter is sent
abbrev pub acted : ModelWorld → ModelSite → ActOutcome Ops → WorldStepped
acted w site o = record {
  answer = record { at = site.node.name; done = o.done; number = number_of site.sent o.letter };
  world = with_site w (record { node = o.node; sent = posted site.sent o.letter });
}

-- the target of a ship or a push is a node of this world
abbrev pub target_is_here : ModelWorld → Act → Bool
target_is_here w (Of (Ship to)) = is_some (site_of w to)
target_is_here w (Of (Push to)) = is_some (site_of w to)
target_is_here w _ = true

-- one step of the world. Bytes that come from nowhere are told as `Raw`, so an act that brings bytes brings no message of this world
abbrev pub step : ModelWorld → Step → Result WorldStepped Refusal
step w (AtNode at act now saves) =
    or_refused (site_of w at) UnknownNode (λ site.
    refused_if (not (target_is_here w act)) UnknownNode
    (then_do (kept_by saves (act_step by_operations w.weigher site.node act now)) (λ o. Ok (acted w site o))))
step w (Delivery from k at drop now saves) =
    or_refused (site_of w from) UnknownNode (λ sender.
    or_refused (message_of sender k) NoSuchMessage (λ m.
    or_refused (site_of w (unwrap_or at m.to)) UnknownNode (λ receiver.
    then_do (kept_by saves (deliver by_operations w.weigher receiver.node from m (drop == 0))) (λ o. Ok (acted w receiver o)))))
step w (Raw at bytes) =
    or_refused (site_of w at) UnknownNode (λ site.
    refused_if (not site.node.up) Down (refused_if (not (w.is_message bytes)) BadMessage (Err NoSuchMessage)))

-- a new world
abbrev pub new : WorldSetting → (Bytes → Bool) → List Bytes → ModelWorld
new setting is_message names = record {
  weigher = setting.weigher;
  is_message = is_message;
  sites = map (λ name. record { node = fresh by_operations name setting.intensity setting.period; sent = [] }) names;
}
