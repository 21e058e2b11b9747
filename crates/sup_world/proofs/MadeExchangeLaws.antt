-- What an exchange does, by what its three steps are answered.
use Rattle.std.specs.Prelude.{◌≡◌, ℕ, List, [], ◌∷◌, Option, Some, None, Result, Ok, Err, IsErrAnd, refl}
use Rattle.std.proofs.Common.{sym, ap, ◌∙◌, subst}
use mathlib.Core.Logic.{inl, inr}
use Rattle.std.proofs.lemmas.Option.{none-some}
use Rattle.sup_specs.specs.Values.{Bytes}
use Rattle.sup_placement.specs.Place.{Weigher}
use Rattle.sup_replica.specs.declared.refusal.Refusal.{Refusal}
use Rattle.sup_replica.specs.declared.refusal.Refusal.TheVariants.{OutOfMemory, UpToDate}
use Rattle.sup_model.specs.declared.step.Step.{Step}
use Rattle.sup_model.specs.Worlds.{ModelWorld, ModelAnswer as Expected, WorldStepped, step}
use Rattle.sup_model.specs.Runs.{ModelAllows, answer_of, world_after}
use Rattle.sup_model.specs.Settles.{SentAndAnswered}
use Rattle.sup_model.proofs.ExchangeLaws.{ship_answered}
use Rattle.sup_world.specs.declared.tally.Tally.{Tally}
use Rattle.sup_world.specs.FollowedSteps.{StandsFor}
use Rattle.sup_world.specs.SeenNodes.{SeenNode}
use Rattle.sup_world.specs.Pairs.{ship_of, arrival, SendsMessage, StepFails}
use Rattle.sup_world.specs.Tallies.{NotesAnswers}
use Rattle.sup_world.specs.Exchanges.{IsNoted, ShipsState, MessageComes, ExchangesPairs}
use Rattle.sup_world.proofs.TallyLaws.{notes_none, notes_then}
use Rattle.sup_world.proofs.ExchangeListLaws.{ended_as}

-- a step of the model that is answered well
pub record Stepping (w : ModelWorld) (s : Step) (e : Expected) (w' : ModelWorld) : Type 0 where
  pub x : WorldStepped
  pub steps : step w s ≡ Ok x
  pub answer : e ≡ x.answer
  pub world : w' ≡ x.world

ok_is : (x y : Expected) → (let r : Result Expected Refusal = Ok x in r) ≡ Ok y → x ≡ y
ok_is x y e = cc

ok_err : (x : Expected) (q : Refusal) → (let r : Result Expected Refusal = Ok x in r) ≡ Err q → ⊥
ok_err x q e = cc

stepped : (w : ModelWorld) (s : Step) (e : Expected) (w' : ModelWorld) (r : Result WorldStepped Refusal) → step w s ≡ r → Ok e ≡ answer_of r → w' ≡ world_after w r → Stepping w s e w'
stepped w s e w' (Ok x) is a b = record { x = x; steps = is; answer = ok_is e x.answer a; world = b }
stepped w s e w' (Err q) is a b = absurd (ok_err e q a)

pub stepping : (w : ModelWorld) (s : Step) (e : Expected) (w' : ModelWorld) → ModelAllows w s (Ok e) w' → Stepping w s e w'
stepping w s e w' (inl h) = stepped w s e w' (step w s) refl h.0 h.1
stepping w s e w' (inr (inl h)) = absurd (ok_err e OutOfMemory h.0)
stepping w s e w' (inr (inr h)) = absurd (ok_err e UpToDate h.0)

-- a step that was noted
pub record Noted (w : ModelWorld) (s : Step) (x : Result Expected Refusal) (w' : ModelWorld) (old : Tally) (number : Option ℕ) (new : Tally) : Type 0 where
  pub answer : Expected
  pub is : x ≡ Ok answer
  pub numbered : number ≡ answer.number
  pub notes : NotesAnswers (x ∷ []) old new
  pub makes : Stepping w s answer w'

pub noted : (w : ModelWorld) (s : Step) (x : Result Expected Refusal) (w' : ModelWorld) (old : Tally) (number : Option ℕ) (new : Tally) → ModelAllows w s x w' → IsNoted x old (Ok number) new → Noted w s x w' old number new
noted w s (Ok e) w' old number new h n = record { answer = e; is = refl; numbered = n.0; notes = n.1; makes = stepping w s e w' h }
noted w s (Err q) w' old number new h n = absurd n

-- what it was answered
told_is : (x : Result Expected Refusal) (e : Expected) (y : WorldStepped) → x ≡ Ok e → e ≡ y.answer → x ≡ Ok y.answer
told_is x e y is answer = is ∙ ap (λ (z : Expected). let r : Result Expected Refusal = Ok z in r) answer

three : (x y z p q r : Result Expected Refusal) → x ≡ p → y ≡ q → z ≡ r → x ∷ y ∷ z ∷ [] ≡ p ∷ q ∷ r ∷ []
three x y z p q r e f g = cc

-- one that wasn't
fails : (w : ModelWorld) (s : Step) (x : Result Expected Refusal) (w' : ModelWorld) (old new : Tally) (r : Refusal) → ModelAllows w s x w' → IsNoted x old (Err r) new → StepFails w s r w'
fails w s (Ok e) w' old new r h n =
    let m : Stepping w s e w' = stepping w s e w' h in
    inr (record { made = m.x; steps = m.steps; memory = n; ends = m.world })
fails w s (Err q) w' old new r h n = inl (subst (λ (p : Refusal). ModelAllows w s (Err p) w') (sym n.0) h)

module _ (weigher : Weigher) (model : ModelWorld) (a b : Bytes) (old : Tally) where
  -- the ship is refused
  pub exchange_unsent : (new : Tally) (sites : List SeenNode) (r : Refusal) (result : Result (Unit {0}) Refusal) → IsErrAnd result (λ q. q ≡ r) → ShipsState weigher model a b old (Err r) new sites → ExchangesPairs weigher model ((a, b) ∷ []) old result new sites
  exchange_unsent new sites r result e h = record {
    after = h.after;
    goes = ended_as model h.after ((a, b) ∷ []) old new result r e (inl (h.noted.1, inl (fails model (ship_of a b) h.expected h.after old new r h.allows h.noted.0)));
    stands = h.stands;
  }

  -- it is passed over
  pub exchange_passed : (new : Tally) (sites : List SeenNode) → ShipsState weigher model a b old (Ok None) new sites → ExchangesPairs weigher model ((a, b) ∷ []) old (let r : Result (Unit {0}) Refusal = Ok tt in r) new sites
  exchange_passed new sites h = record {
    after = model;
    goes = ([], (model, [], [], (inr (h.noted.1, refl), refl), (refl, refl), refl), subst (λ (t : Tally). NotesAnswers [] old t) (sym h.noted.3) (notes_none old));
    stands = subst (StandsFor weigher sites) h.noted.2 h.stands;
  }

  module _ (k : ℕ) (sent : Tally) (shipped : List SeenNode) (h : ShipsState weigher model a b old (Ok (Some k)) sent shipped) where
    pub mid : ModelWorld
    mid = h.after

    ship : Noted model (ship_of a b) h.expected h.after old (Some k) sent
    ship = noted model (ship_of a b) h.expected h.after old (Some k) sent h.allows h.noted

    at_ship : Stepping model (ship_of a b) ship.answer h.after
    at_ship = ship.makes

    ship_number : at_ship.x.answer.number ≡ Some k
    ship_number = sym (ap (λ (y : Expected). y.number) at_ship.answer) ∙ sym ship.numbered

    sends : SendsMessage model (ship_of a b) k h.after
    sends = record { made = at_ship.x; steps = at_ship.steps; numbered = ship_number; ends = at_ship.world }

    -- the delivery is refused
    pub exchange_unbrought : (new : Tally) (sites : List SeenNode) (r : Refusal) (result : Result (Unit {0}) Refusal) → IsErrAnd result (λ q. q ≡ r) → MessageComes weigher h.after a k sent (Err r) new sites → ExchangesPairs weigher model ((a, b) ∷ []) old result new sites
    exchange_unbrought new sites r result e d = record {
      after = d.0.after;
      goes = ended_as model d.0.after ((a, b) ∷ []) old new result r e (inl (d.1, inr (k, h.after, sends, inl (fails h.after (arrival a k) d.0.expected d.0.after sent new r d.0.allows d.0.noted))));
      stands = d.0.stands;
    }

    -- the receiver always acknowledges
    module _ (number : Option ℕ) (brought : Tally) (came : List SeenNode) (d : MessageComes weigher h.after a k sent (Ok number) brought came) where
      arrives : Noted h.after (arrival a k) d.0.expected d.0.after sent number brought
      arrives = noted h.after (arrival a k) d.0.expected d.0.after sent number brought d.0.allows d.0.noted

      at_arrival : Stepping h.after (arrival a k) arrives.answer d.0.after
      at_arrival = arrives.makes

      comes : step at_ship.x.world (arrival a k) ≡ Ok at_arrival.x
      comes = subst (λ (w : ModelWorld). step w (arrival a k) ≡ Ok at_arrival.x) at_ship.world at_arrival.steps

      arrival_number : at_arrival.x.answer.number ≡ number
      arrival_number = sym (ap (λ (y : Expected). y.number) at_arrival.answer) ∙ sym arrives.numbered

      pub always_answered : None ≡ number → ⊥
      always_answered none =
          let n = ship_answered model a b at_ship.x at_arrival.x k at_ship.steps ship_number comes in
          none-some n.0 (none ∙ (sym arrival_number ∙ n.1))

    module _ (n : ℕ) (brought : Tally) (came : List SeenNode) (d : MessageComes weigher h.after a k sent (Ok (Some n)) brought came) where
      pub last : ModelWorld
      last = d.0.after

      told_arrival : Noted h.after (arrival a k) d.0.expected d.0.after sent (Some n) brought
      told_arrival = arrives (Some n) brought came d

      acknowledges : SendsMessage h.after (arrival a k) n d.0.after
      acknowledges =
          let second = at_arrival (Some n) brought came d in
          record { made = second.x; steps = second.steps; numbered = arrival_number (Some n) brought came d; ends = second.world }

      -- the acknowledgement is refused
      pub exchange_untold : (new : Tally) (sites : List SeenNode) (r : Refusal) (result : Result (Unit {0}) Refusal) → IsErrAnd result (λ q. q ≡ r) → MessageComes weigher d.0.after b n brought (Err r) new sites → ExchangesPairs weigher model ((a, b) ∷ []) old result new sites
      exchange_untold new sites r result e t = record {
        after = t.0.after;
        goes = ended_as model t.0.after ((a, b) ∷ []) old new result r e (inl (t.1, inr (k, h.after, sends, inr (n, d.0.after, acknowledges, fails d.0.after (arrival b n) t.0.expected t.0.after brought new r t.0.allows t.0.noted))));
        stands = t.0.stands;
      }

      -- all three are made
      pub exchange_done : (number : Option ℕ) (new : Tally) (sites : List SeenNode) → MessageComes weigher d.0.after b n brought (Ok number) new sites → ExchangesPairs weigher model ((a, b) ∷ []) old (let r : Result (Unit {0}) Refusal = Ok tt in r) new sites
      exchange_done number new sites t =
          let third : Noted d.0.after (arrival b n) t.0.expected t.0.after brought number new = noted d.0.after (arrival b n) t.0.expected t.0.after brought number new t.0.allows t.0.noted in
          let at_told : Stepping d.0.after (arrival b n) third.answer t.0.after = third.makes in
          let came_as = arrives (Some n) brought came d in
          let second = at_arrival (Some n) brought came d in
          let sending : SentAndAnswered model a b t.0.after = record {
            ship = at_ship.x;
            k = k;
            came = second.x;
            n = n;
            told = at_told.x;
            ships = at_ship.steps;
            number = ship_number;
            comes = comes (Some n) brought came d;
            answered = arrival_number (Some n) brought came d;
            tells = subst (λ (w : ModelWorld). step w (arrival b n) ≡ Ok at_told.x) second.world at_told.steps;
            ends = at_told.world;
          } in
          let answers : List (Result Expected Refusal) = h.expected ∷ d.0.expected ∷ t.0.expected ∷ [] in
          let told : answers ≡ Ok at_ship.x.answer ∷ Ok second.x.answer ∷ Ok at_told.x.answer ∷ [] =
          three h.expected d.0.expected t.0.expected (Ok at_ship.x.answer) (Ok second.x.answer) (Ok at_told.x.answer)
          (told_is h.expected ship.answer at_ship.x ship.is at_ship.answer)
          (told_is d.0.expected came_as.answer second.x came_as.is second.answer)
          (told_is t.0.expected third.answer at_told.x third.is at_told.answer) in
          record {
            after = t.0.after;
            goes = (answers, (t.0.after, answers, [], (inl sending, told), (refl, refl), refl), notes_then (h.expected ∷ []) (d.0.expected ∷ t.0.expected ∷ []) old sent new ship.notes (notes_then (d.0.expected ∷ []) (t.0.expected ∷ []) sent brought new told_arrival.notes third.notes));
            stands = t.0.stands;
          }
