-- What steps of other nodes leave as it is.
use Rattle.std.specs.Prelude.{◌≡◌, ℕ, false, Bool, [], ◌∷◌, List, Some, unwrap_or}
use Rattle.std.specs.Option.{option_map}
use Rattle.sup_specs.specs.Values.{Bytes}
use Rattle.sup_tables.specs.States.{State}
use Rattle.sup_replica.specs.ByTables.{by_tables}
use Rattle.sup_replica.specs.Nodes.{is_named}
use Rattle.sup_replica.specs.Stations.{Mail, receiver_of}
use Rattle.sup_model.specs.declared.step.Step.{Step}
use Rattle.sup_model.specs.declared.step.Step.TheVariants.{Node as AtNode, Deliver as Delivery, Raw}
use Rattle.sup_model.specs.Posts.{RealWorld, post_of, real_step, real_after, real_run, arrives}
use Rattle.sup_model.specs.Refines.{real_answer_of}
use Rattle.sup_placement.specs.Place.{Weigher}
use Rattle.sup_replica.specs.Stations.{Station}
use Rattle.sup_world.specs.Alone.{as_read, names_in, mail_sent}

-- the node that a step comes to
abbrev pub real_comes_to : RealWorld State → Step → Bytes
real_comes_to w (AtNode at act now saves) = at
real_comes_to w (Delivery from k at drop now saves) = unwrap_or at (unwrap_or (option_map receiver_of (mail_sent w from k)) [])
real_comes_to w (Raw at bytes) = at

abbrev pub after_step : RealWorld State → Step → RealWorld State
after_step w step = real_after by_tables w (real_step by_tables w step)

abbrev pub NodesStay : Type 0
NodesStay = (w : RealWorld State) (step : Step) (name : Bytes) → is_named name (real_comes_to w step) ≡ false → post_of (after_step w step) name ≡ post_of w name

abbrev pub MessagesStay : Type 0
MessagesStay = (w : RealWorld State) (step : Step) (from : Bytes) (k : ℕ) (mail : Mail State) → mail_sent w from k ≡ Some mail → mail_sent (after_step w step) from k ≡ Some mail

-- the same nodes, this one as it was, and each message that was sent is still there
pub record IsFurther (name : Bytes) (w v : RealWorld State) : Type 0 where
  pub weigher : v.weigher ≡ w.weigher
  pub codec : v.codec ≡ w.codec
  pub names : names_in v ≡ names_in w
  pub own : post_of v name ≡ post_of w name
  pub sent : (from : Bytes) (k : ℕ) (mail : Mail State) → mail_sent w from k ≡ Some mail → mail_sent v from k ≡ Some mail

-- steps of other nodes, one after another
abbrev pub AreOthers : Bytes → RealWorld State → List Step → Type 0
AreOthers name w [] = Unit {0}
AreOthers name w (step ∷ steps) = (is_named name (real_comes_to w step) ≡ false) × AreOthers name (after_step w step) steps

abbrev pub OthersGoFurther : Type 0
OthersGoFurther = (name : Bytes) (w : RealWorld State) (steps : List Step) → AreOthers name w steps → IsFurther name w (real_run by_tables w steps)

-- the message that the step brings, if it brings one, was sent
abbrev pub WasSent : RealWorld State → Step → Type 0
WasSent w (AtNode at act now saves) = Unit {0}
WasSent w (Delivery from k at drop now saves) = (mail : Mail State) × (mail_sent w from k ≡ Some mail)
WasSent w (Raw at bytes) = Unit {0}

abbrev pub EntriesStay : Type 0
EntriesStay =
    (w v : RealWorld State) (step : Step) → WasSent w step → IsFurther (real_comes_to w step) w v
    → (real_answer_of (real_step by_tables v step) ≡ real_answer_of (real_step by_tables w step)) × (post_of (after_step v step) (real_comes_to w step) ≡ post_of (after_step w step) (real_comes_to w step))

-- messages whose texts are read alike come alike, whole or cut short by as much
abbrev pub TextsArrive : Type 0
TextsArrive =
    (g : Weigher) (s : Station State) (a b : Mail State) (drop : ℕ) (saves : Bool) → as_read a ≡ as_read b → arrives by_tables g s a drop saves ≡ arrives by_tables g s b drop saves
