-- Promises that were kept, said of the jobs for which they were given.
use Rattle.std.proofs.Common.{arith, suc, ◌≡◌, ℕ, ◌<◌, length, List, [], ◌∷◌, slice_index_or, subst}
use Rattle.std.specs.List.{AllZip}
use Rattle.std.specs.PromisedHandle.{KeepsAt}
use Rattle.std.specs.declared.thread.PromisedHandle.{PromisedHandle}
use Rattle.std.specs.declared.thread.Promise as Promise
use Rattle.sup_crew.specs.declared.team.Team.{Team}
use Rattle.sup_crew.specs.declared.work.Given.{Given}
use Rattle.sup_crew.specs.Promises.{IsFor, IsGivenAt}
use Rattle.sup_crew.specs.Teams.{TeamZip}

-- what goes with what, by way of a list between
pub AllZip-through : {A B C : Type 0} (P : A → B → Type 0) (Q : B → C → Type 0) (R : A → C → Type 0)
    → ((x : A) (y : B) (z : C) → P x y → Q y z → R x z)
    → (xs : List A) (ys : List B) (zs : List C) → AllZip P xs ys → AllZip Q ys zs → AllZip R xs zs
AllZip-through P Q R both [] [] [] first second = tt
AllZip-through P Q R both [] [] (z ∷ zs) first second = absurd second
AllZip-through P Q R both [] (y ∷ ys) zs first second = absurd first
AllZip-through P Q R both (x ∷ xs) [] zs first second = absurd first
AllZip-through P Q R both (x ∷ xs) (y ∷ ys) [] first second = absurd second
AllZip-through P Q R both (x ∷ xs) (y ∷ ys) (z ∷ zs) first second = (both x y z first.0 second.0, AllZip-through P Q R both xs ys zs first.1 second.1)

module _ {J W T : Type 0} (gives : W → J → T → Type 0) where
  pub given_for_job : (w : W) (j : J) (h : PromisedHandle T (Given J W)) (r : T) → IsFor w j h → IsGivenAt gives h r → gives w j r
  given_for_job w j h r is given = subst (λ x. gives x j r) is.1 (subst (λ x. gives h.promise.work.value x r) is.0 given)

  pub given_for_jobs : (w : W) (js : List J) (hs : List (PromisedHandle T (Given J W))) (rs : List T)
      → AllZip (IsFor w) js hs → AllZip (IsGivenAt gives) hs rs → AllZip (gives w) js rs
  given_for_jobs w js hs rs are given = AllZip-through (IsFor w) (IsGivenAt gives) (gives w) (given_for_job w) js hs rs are given

  module _ (g : Promise.Ghosts (Given J W) T) (says : (p : Given J W) (r : T) → g.kept_by p r → gives p.work.value p.job.value r) where
    pub each_given : (hs : List (PromisedHandle T (Given J W))) (rs : List T) → length rs ≡ length hs
        → ((i : ℕ) (d : T) → i < length hs → KeepsAt g hs i (slice_index_or rs i d))
        → AllZip (IsGivenAt gives) hs rs
    each_given [] [] long kept = tt
    each_given [] (r ∷ rs) long kept = absurd (omega (arith, long))
    each_given (h ∷ hs) [] long kept = absurd (omega (arith, long))
    each_given (h ∷ hs) (r ∷ rs) long kept = (
      (let first = kept 0 r (omega arith) in says h.promise r (subst (λ x. g.kept_by x.promise r) first.handle_is first.kept)),
      each_given hs rs (omega (arith, long))
          (λ i d low. let next = kept (suc i) d (omega (arith, low)) in record { handle = next.handle; handle_is = next.handle_is; kept = next.kept }),
    )

pub kept_for_jobs : {J W T : Type 0} (g : Promise.Ghosts (Given J W) T) (gives : W → J → T → Type 0)
    → ((p : Given J W) (r : T) → g.kept_by p r → gives p.work.value p.job.value r)
    → (w : W) (js : List J) (hs : List (PromisedHandle T (Given J W))) (rs : List T)
    → AllZip (IsFor w) js hs → length rs ≡ length hs
    → ((i : ℕ) (d : T) → i < length hs → KeepsAt g hs i (slice_index_or rs i d))
    → AllZip (gives w) js rs
kept_for_jobs g gives says w js hs rs are long kept = given_for_jobs gives w js hs rs are (each_given gives g says hs rs long kept)

module _ {K U J T W : Type 0} (leads : W → K → U → Type 0) (others : W → J → T → Type 0) where
  pub given_for_teams : (w : W) (ts : List (Team K J)) (hs : List (Team (PromisedHandle U (Given K W)) (PromisedHandle T (Given J W)))) (ds : List (Team U T))
      → AllZip (TeamZip (IsFor w) (IsFor w)) ts hs → AllZip (TeamZip (IsGivenAt leads) (IsGivenAt others)) hs ds
      → AllZip (TeamZip (leads w) (others w)) ts ds
  given_for_teams w = AllZip-through (TeamZip (IsFor w) (IsFor w)) (TeamZip (IsGivenAt leads) (IsGivenAt others)) (TeamZip (leads w) (others w))
      (λ t h d are given. (given_for_job leads w t.lead h.lead d.lead are.0 given.0, given_for_jobs others w t.others.items h.others.items d.others.items are.1 given.1))
