-- Settling of a world of stations, step by step: all to the first by name, then the first to all, each letter delivered at once.
use Rattle.std.specs.Prelude.{ℕ, zero, suc, ◌+◌, true, List, [], ◌∷◌, ◌++◌, map, filter, Option, Some, None, Result, Ok, Err}
use Rattle.sup_specs.specs.Values.{Bytes, text_cmp}
use Rattle.sup_specs.specs.Rising.{rising}
use Rattle.sup_local_sup.specs.declared.effect.Effect.{Effect}
use Rattle.sup_replica.specs.declared.event.Act.TheVariants.{Event as Of}
use Rattle.sup_replica.specs.declared.event.Event.TheVariants.{Ship}
use Rattle.sup_replica.specs.declared.refusal.Refusal.{Refusal}
use Rattle.sup_replica.specs.declared.refusal.Refusal.TheVariants.{NoSuchMessage}
use Rattle.sup_replica.specs.Nodes.{Knowledge}
use Rattle.sup_model.specs.declared.step.Step.TheVariants.{Node as AtNode, Deliver as Delivery}
use Rattle.sup_model.specs.Posts.{RealWorld, RealStepped, real_step}

-- what settling has come to so far
pub record Settling (K : Type 0) : Type 0 where
  pub world : RealWorld K
  pub messages : ℕ
  pub effects : List (Bytes × Effect)

module _ {K : Type 0} (k : Knowledge K) where
  -- the delivery of the letter that a step sent, at once
  abbrev pub brings : RealWorld K → Bytes → Option ℕ → Result (RealStepped K) Refusal
  brings w from None = Err NoSuchMessage
  brings w from (Some n) = real_step k w (Delivery from n None 0 0 true)

  abbrev pub letters_in : Option ℕ → ℕ
  letters_in None = 0
  letters_in (Some n) = 1

  abbrev pub settling_with : Settling K → RealStepped K → Settling K
  settling_with s step = record {
    world = step.world;
    messages = s.messages + letters_in step.answer.number;
    effects = s.effects ++ map (λ e. (step.answer.at, e)) step.answer.effects;
  }

  -- a step, and then so many deliveries, each of the letter that was just sent. The first that is refused ends them
  abbrev pub follows : ℕ → Settling K → Result (RealStepped K) Refusal → Settling K
  follows n s (Err refusal) = s
  follows zero s (Ok step) = settling_with s step
  follows (suc n) s (Ok step) = follows n (settling_with s step) (brings step.world step.answer.at step.answer.number)

  -- a ship, its delivery, and the delivery of the acknowledgement
  abbrev pub exchanges : Settling K → Bytes → Bytes → Settling K
  exchanges s from to = follows 2 s (real_step k s.world (AtNode from (Of (Ship to)) 0 true))

  abbrev pub gathers : Settling K → Bytes → List Bytes → Settling K
  gathers s first [] = s
  gathers s first (node ∷ nodes) = gathers (exchanges s node first) first nodes

  abbrev pub spreads : Settling K → Bytes → List Bytes → Settling K
  spreads s first [] = s
  spreads s first (node ∷ nodes) = spreads (exchanges s first node) first nodes

  -- all to the first, and then the first to all
  abbrev pub settles : RealWorld K → List Bytes → Settling K
  settles w [] = record { world = w; messages = 0; effects = [] }
  settles w (first ∷ nodes) = spreads (gathers (record { world = w; messages = 0; effects = [] }) first nodes) first nodes

-- the nodes that are up, by name
abbrev pub up_names : {K : Type 0} → RealWorld K → List Bytes
up_names w = rising text_cmp (map (λ p. p.station.node.name) (filter (λ p. p.station.node.up) w.posts))
