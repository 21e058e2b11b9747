-- A step that is made and noted, a ship and a delivery.
use Rattle.std.specs.Prelude.{◌≡◌, ◌≢◌, ◌++◌, ℕ, List, Option, Some, None, Result, Ok, Err, IsErrAnd, IfOk, IfErr, OnOk, refl}
use Rattle.std.proofs.Common.{sym, ap, ◌∙◌, subst}
use mathlib.Core.Logic.{inl, inr}
use Rattle.std.proofs.lemmas.Option.{none-some}
use Rattle.sup_specs.specs.Values.{Bytes}
use Rattle.sup_placement.specs.Place.{Weigher}
use Rattle.sup_replica.specs.declared.refusal.Refusal.{Refusal}
use Rattle.sup_replica.specs.declared.refusal.Refusal.TheVariants.{OutOfMemory, UpToDate}
use Rattle.sup_model.specs.declared.step.Step.{Step}
use Rattle.sup_model.specs.Worlds.{ModelWorld, ModelAnswer as Expected, WorldStepped, step}
use Rattle.sup_model.specs.Runs.{ModelAllows, answer_of, MayBeUpToDate}
use Rattle.sup_model.proofs.ExchangeLaws.{ship_numbered}
use Rattle.sup_model.proofs.Unlikes.{ship_never_up_to_date, arrival_never_up_to_date}
use Rattle.sup_world.specs.declared.answer.Answer.{Answer}
use Rattle.sup_world.specs.declared.tally.Tally.{Tally}
use Rattle.sup_world.specs.FollowedSteps.{IsAsOf, FollowsModel}
use Rattle.sup_world.specs.SeenNodes.{SeenNode}
use Rattle.sup_world.specs.Tallies.{numbers_with, effects_by}
use Rattle.sup_world.specs.Pairs.{ship_of, arrival}
use Rattle.sup_world.specs.Exchanges.{IsNoted, MakesStep, ShipsState, MessageComes}
use Rattle.sup_world.proofs.TallyLaws.{notes_one}
use Rattle.sup_world.proofs.MadeExchangeLaws.{Stepping, stepping}

-- the step was refused
untold : (x : Result Expected Refusal) (t : Tally) (q : Refusal) (result : Result (Option ℕ) Refusal) → IsErrAnd result (λ p. p ≡ q) → IsAsOf x (Err q) → IsNoted x t result t
untold (Ok e) t q result f h = absurd h
untold (Err p) t q (Ok number) f h = absurd f
untold (Err p) t q (Err r) f h = (f ∙ h, refl)

-- it was answered, and noted where there was room
took : (x : Result Expected Refusal) (answer : Answer) (old new : Tally) (result : Result (Option ℕ) Refusal) → IsAsOf x (Ok answer) → IfOk result (λ number. number ≡ answer.number) → OnOk result (new.sent.items ≡ numbers_with old.sent.items answer.number)
    → OnOk result (new.effects.items ≡ old.effects.items ++ effects_by answer.at answer.done.effects) → IfErr result (λ r. r ≡ OutOfMemory) → IsNoted x old result new
took (Ok e) answer old new (Ok number) h n s f r = (n ∙ h.number, notes_one e answer old new h s f)
took (Ok e) answer old new (Err q) h n s f r = r
took (Err p) answer old new result h n s f r = absurd h

module _ (weigher : Weigher) (model : ModelWorld) where
  pub makes_err : (s : Step) (t : Tally) (sites : List SeenNode) (q : Refusal) (result : Result (Option ℕ) Refusal) → IsErrAnd result (λ p. p ≡ q) → FollowsModel weigher model s (Err q) sites → MakesStep weigher model s t result t sites
  makes_err s t sites q result f h = record { expected = h.expected; after = h.after; allows = h.allows; noted = untold h.expected t q result f h.told; stands = h.stands }

  pub makes_taken : (s : Step) (old new : Tally) (sites : List SeenNode) (answer : Answer) (result : Result (Option ℕ) Refusal) → FollowsModel weigher model s (Ok answer) sites → IfOk result (λ number. number ≡ answer.number) → OnOk result (new.sent.items ≡ numbers_with old.sent.items answer.number)
      → OnOk result (new.effects.items ≡ old.effects.items ++ effects_by answer.at answer.done.effects) → IfErr result (λ r. r ≡ OutOfMemory) → MakesStep weigher model s old result new sites
  makes_taken s old new sites answer result h n m f r = record { expected = h.expected; after = h.after; allows = h.allows; noted = took h.expected answer old new result h.told n m f r; stands = h.stands }

  err_is : (p q : Refusal) → (let x : Result Expected Refusal = Err p in x) ≡ Err q → p ≡ q
  err_is p q e = cc

  answered_err : (x : Result WorldStepped Refusal) (p : Refusal) → Err p ≡ answer_of x → x ≡ Err p
  answered_err (Ok y) p e = absurd cc
  answered_err (Err q) p e = cc

  memory_is_not : OutOfMemory ≡ UpToDate → ⊥
  memory_is_not e = cc

  -- an answer that says up to date is none of the model's but for a ship
  up_to_date : (s : Step) (x : Result Expected Refusal) (after : ModelWorld) → (step model s ≡ Err UpToDate → ⊥) → ModelAllows model s x after → x ≡ Err UpToDate → MayBeUpToDate model s × (after ≡ model)
  up_to_date s x after never (inl h) e = absurd (never (answered_err (step model s) UpToDate (sym e ∙ h.0)))
  up_to_date s x after never (inr (inl h)) e = absurd (memory_is_not (err_is OutOfMemory UpToDate (sym h.0 ∙ e)))
  up_to_date s x after never (inr (inr h)) e = (h.2, h.3)

  -- what a result that says up to date was noted from
  said : (x : Result Expected Refusal) (old new : Tally) (r : Refusal) → r ≡ UpToDate → IsNoted x old (Err r) new → (x ≡ Err UpToDate) × (new ≡ old)
  said (Ok e) old new r is h = absurd (memory_is_not (sym h ∙ is))
  said (Err q) old new r is h = (ap (λ (p : Refusal). let y : Result Expected Refusal = Err p in y) (sym h.0 ∙ is), h.1)

  ships_none : (a b : Bytes) (old new : Tally) (sites : List SeenNode) → MakesStep weigher model (ship_of a b) old (Err UpToDate) new sites → ShipsState weigher model a b old (Ok None) new sites
  ships_none a b old new sites h =
      let is = said h.expected old new UpToDate refl h.noted in
      let may = up_to_date (ship_of a b) h.expected h.after (ship_never_up_to_date model a b) h.allows is.0 in
      record { expected = h.expected; after = h.after; allows = h.allows; noted = (is.0, may.0, may.1, is.1); stands = h.stands }

  -- a ship that is made has a number
  numbered : (a b : Bytes) (x : Result Expected Refusal) (old new : Tally) (after : ModelWorld) → ModelAllows model (ship_of a b) x after → IsNoted x old (Ok None) new → ⊥
  numbered a b (Ok e) old new after h n =
      let s : Stepping model (ship_of a b) e after = stepping model (ship_of a b) e after h in
      let k = ship_numbered model a b s.x s.steps in
      none-some k.0 (n.0 ∙ (ap (λ (y : Expected). y.number) s.answer ∙ k.1))
  numbered a b (Err q) old new after h n = n

  pub ships_numbered : (a b : Bytes) (old new : Tally) (sites : List SeenNode) (number : Option ℕ) → MakesStep weigher model (ship_of a b) old (Ok number) new sites → ShipsState weigher model a b old (Ok number) new sites
  ships_numbered a b old new sites None h = absurd (numbered a b h.expected old new h.after h.allows h.noted)
  ships_numbered a b old new sites (Some k) h = record { expected = h.expected; after = h.after; allows = h.allows; noted = h.noted; stands = h.stands }

  pub ships_refused : (a b : Bytes) (old new : Tally) (sites : List SeenNode) (q : Refusal) (result : Result (Option ℕ) Refusal) → IfOk result (λ number. (number ≡ None) × (q ≡ UpToDate)) → IfErr result (λ r. (r ≡ q) × (r ≢ UpToDate))
      → MakesStep weigher model (ship_of a b) old (Err q) new sites → ShipsState weigher model a b old result new sites
  ships_refused a b old new sites q (Ok None) passed refused h = ships_none a b old new sites (subst (λ (r : Refusal). MakesStep weigher model (ship_of a b) old (Err r) new sites) passed.1 h)
  ships_refused a b old new sites q (Ok (Some k)) passed refused h = absurd (none-some k (sym passed.0))
  ships_refused a b old new sites q (Err r) passed refused h =
      record { expected = h.expected; after = h.after; allows = h.allows; noted = (subst (λ (p : Refusal). IsNoted h.expected old (Err p) new) (sym refused.0) h.noted, refused.1); stands = h.stands }

  -- a delivery is never up to date
  brought : (a : Bytes) (k : ℕ) (old new : Tally) (sites : List SeenNode) (r : Refusal) → MakesStep weigher model (arrival a k) old (Err r) new sites → r ≢ UpToDate
  brought a k old new sites r h = λ e. (up_to_date (arrival a k) h.expected h.after (arrival_never_up_to_date model a k) h.allows (said h.expected old new r e h.noted).0).0

  pub comes : (a : Bytes) (k : ℕ) (old new : Tally) (sites : List SeenNode) (result : Result (Option ℕ) Refusal) → MakesStep weigher model (arrival a k) old result new sites → MessageComes weigher model a k old result new sites
  comes a k old new sites (Ok number) h = (h, tt)
  comes a k old new sites (Err r) h = (h, brought a k old new sites r h)
