-- A step of the code's world follows the model, by the law of the definitions.
use Rattle.std.specs.Prelude.{◌≡◌, ◌≢◌, not, Bool, true, false, List, map, is_some, Option, Some, None, Result, Ok, Err, OnErr, unwrap_or, refl}
use Rattle.std.specs.List.{AllZip}
use Rattle.std.proofs.Common.{sym, ap, ◌∙◌, subst}
use mathlib.Core.Logic.{inl, inr}
use Rattle.sup_specs.specs.Values.{Bytes}
use Rattle.sup_causal.proofs.DotLemmas.{on_err}
use Rattle.sup_tables.specs.States.{State}
use Rattle.sup_placement.specs.Place.{Weigher}
use Rattle.sup_replica.specs.declared.refusal.Refusal.{Refusal}
use Rattle.sup_replica.specs.declared.refusal.Refusal.TheVariants.{Down, UnknownNode, NoSuchMessage, BadMessage, KeepFailed}
use Rattle.sup_replica.specs.declared.letter.Letter.{Letter}
use Rattle.sup_replica.specs.Checks.{refused_if, then_do}
use Rattle.sup_replica.specs.ByTables.{by_tables}
use Rattle.sup_replica.specs.Stations.{Mail, StationMove, receiver_of}
use Rattle.sup_node.specs.Texts.{IsLetterOf}
use Rattle.sup_model.specs.declared.step.Step.{Step}
use Rattle.sup_model.specs.declared.step.Step.TheVariants.{Node as AtNode, Deliver as Delivery, Raw}
use Rattle.sup_model.specs.Posts.{StationPost, RealWorld, RealAnswer, RealStepped, reads, post_of, mail_of, mail_number, target_here, post_step, arrives, real_acted, real_step}
use Rattle.sup_model.specs.Worlds.{ModelWorld, ModelAnswer as Expected, or_refused}
use Rattle.sup_model.specs.Refines.{AnswersAlike, real_answer_of}
use Rattle.sup_model.specs.TableViews.{table_view}
use Rattle.sup_model.specs.Follows.{StepMakes, WorldStandsFor, StepFollows as IsFollowing}
use Rattle.sup_model.proofs.FollowLaws.{steps_follow}
use Rattle.sup_world.specs.declared.answer.Answer.{Answer}
use Rattle.sup_world.specs.CarriedSteps.{carried, lets_save, KeeperFailed, KnowsBytes, OthersStay}
use Rattle.sup_world.specs.Runs.{StepGoes}
use Rattle.sup_world.specs.SeenNodes.{SeenNode, IsAsBefore, FailedOnceAtMost, FailedNoMore, IsTold}
use Rattle.sup_world.specs.ToldAnswers.{ShowsReal, TellsOf}
use Rattle.sup_world.specs.FollowedSteps.{CarriesOut, MakesRealStep, StandsFor, IsAsOf, FollowsModel}
use Rattle.sup_world.proofs.SeenListLaws.{all_same, as_before, once_at_most, no_more, untold}

-- a letter has a number exactly where it is there
abbrev Lettered : Result (RealStepped State) Refusal → Type 0
Lettered (Ok s) = is_some s.answer.letter ≡ is_some s.answer.number
Lettered (Err r) = Unit {0}

mail_numbered : (sent : List (Mail State)) (m : Option (Mail State)) → is_some m ≡ is_some (mail_number sent m)
mail_numbered sent None = refl
mail_numbered sent (Some m) = refl

lettered_then : (real : RealWorld State) (post : StationPost State) (x : Result (StationMove State) Refusal) → Lettered (then_do x (λ m. Ok (real_acted real post m)))
lettered_then real post (Ok m) = mail_numbered post.sent m.letter
lettered_then real post (Err r) = tt

lettered_if : (b : Bool) (r : Refusal) (x : Result (RealStepped State) Refusal) → Lettered x → Lettered (refused_if b r x)
lettered_if true r x h = tt
lettered_if false r x h = h

lettered_or : {A : Type 0} (o : Option A) (r : Refusal) (next : A → Result (RealStepped State) Refusal) → ((a : A) → Lettered (next a)) → Lettered (or_refused o r next)
lettered_or None r next h = tt
lettered_or (Some a) r next h = h a

lettered_step : (real : RealWorld State) (step : Step) → Lettered (real_step by_tables real step)
lettered_step real (AtNode at act now saves) =
    lettered_or (post_of real at) UnknownNode _ (λ post. lettered_if (not (target_here real act)) UnknownNode _ (lettered_then real post (post_step by_tables real post.station act now saves)))
lettered_step real (Delivery from k at drop now saves) =
    lettered_or (post_of real from) UnknownNode _ (λ sender. lettered_or (mail_of sender k) NoSuchMessage _ (λ mail.
    lettered_or (post_of real (unwrap_or at (receiver_of mail))) UnknownNode _ (λ post. lettered_then real post (arrives by_tables real.weigher post.station mail drop saves))))
lettered_step real (Raw at bytes) =
    lettered_or (post_of real at) UnknownNode _ (λ post. lettered_if (not post.station.node.up) Down _ (lettered_if (not (reads real.codec bytes)) BadMessage (Err NoSuchMessage) tt))

abbrev LetteredAnswer : Result (RealAnswer State) Refusal → Type 0
LetteredAnswer (Ok a) = is_some a.letter ≡ is_some a.number
LetteredAnswer (Err r) = Unit {0}

lettered_answer : (x : Result (RealStepped State) Refusal) → Lettered x → LetteredAnswer (real_answer_of x)
lettered_answer (Ok s) h = h
lettered_answer (Err r) h = tt

made_lettered : (real after : RealWorld State) (step : Step) (told : Result (RealAnswer State) Refusal) → StepMakes real step told after → LetteredAnswer told
made_lettered real after step told (inl m) = subst (λ (a : Result (RealAnswer State) Refusal). LetteredAnswer a) (sym m.0) (lettered_answer (real_step by_tables real step) (lettered_step real step))
made_lettered real after step told (inr m) = subst (λ (a : Result (RealAnswer State) Refusal). LetteredAnswer a) (sym m.0) tt

same_there : (mail : Option (Mail State)) (out : Option Letter) → IsLetterOf mail out → is_some out ≡ is_some mail
same_there None None h = refl
same_there None (Some l) h = absurd h
same_there (Some m) None h = absurd h
same_there (Some m) (Some l) h = refl

told_as : (told : Result (RealAnswer State) Refusal) (expected : Result Expected Refusal) (result : Result Answer Refusal) → LetteredAnswer told → AnswersAlike table_view told expected → TellsOf told result → IsAsOf expected result
told_as (Ok a) (Ok b) (Ok c) l h t = record {
  at = t.at ∙ h.at;
  reply = t.reply ∙ h.reply;
  effects = t.effects ∙ h.effects;
  number = t.number ∙ h.number;
  lettered = same_there a.letter c.done.out t.letter ∙ l ∙ ap is_some (sym t.number);
}
told_as (Ok a) (Ok b) (Err r) l h t = absurd t
told_as (Ok a) (Err q) result l h t = absurd h
told_as (Err r) (Ok b) result l h t = absurd h
told_as (Err r) (Err q) (Ok c) l h t = absurd t
told_as (Err r) (Err q) (Err x) l h t = t ∙ h

pub follows : (g : Weigher) (real : RealWorld State) (model : ModelWorld) (step : Step) (result : Result Answer Refusal) (new : List SeenNode) → WorldStandsFor real model → MakesRealStep g real step result new → FollowsModel g model step result new
follows g real model step result new stands s =
    let f : IsFollowing model step s.told s.after = steps_follow real s.after step s.told s.makes model stands in
    record {
      after = f.after;
      expected = f.expected;
      allows = f.allows;
      told = told_as s.told f.expected result (made_lettered real s.after step s.told s.makes) f.told s.tells;
      stands = record { real = s.after; shows = s.shows; stands = f.stands };
    }

-- what the model's world knows of raw bytes, the code's does
knows_by : (is_message : Bytes → Bool) (real : RealWorld State) (step : Step) → is_message ≡ reads real.codec → KnowsBytes is_message step → KnowsBytes (reads real.codec) step
knows_by is_message real step e k = subst (λ m. KnowsBytes m step) e k

pub steps_as : (g : Weigher) (sites new : List SeenNode) (model : ModelWorld) (step : Step) (result : Result Answer Refusal) → ((real : RealWorld State) → ShowsReal g sites real → KnowsBytes (reads real.codec) step → MakesRealStep g real (carried sites step) result new)
    → StandsFor g sites model → KnowsBytes model.is_message step → FollowsModel g model (carried sites step) result new
steps_as g sites new model step result steps s knows =
    let e : model.is_message ≡ reads s.real.codec = ap (λ (m : ModelWorld). m.is_message) s.stands.model_is ∙ ap (λ (r : RealWorld State). reads r.codec) (sym s.stands.real_is) in
    follows g s.real model (carried sites step) result new s.stands (steps s.real s.shows (knows_by model.is_message s.real step e knows))

-- a step that a world makes on its nodes, which are lent and come back
pub goes_lent : {A : Type 0} (f : A → SeenNode) (g : Weigher) (lent all new back : List A) (step told : Step) (answer : Result Answer Refusal) → lent ≡ all → back ≡ new → step ≡ told → CarriesOut g (map f lent) told answer (map f new)
    → OnErr answer (AllZip IsAsBefore (map f lent) (map f new)) → AllZip FailedOnceAtMost (map f lent) (map f new) → (lets_save told ≡ true → AllZip FailedNoMore (map f lent) (map f new))
    → (answer ≡ Err KeepFailed → KeeperFailed (map f lent) told (map f new)) → AllZip (IsTold answer) (map f lent) (map f new) → OthersStay (map f lent) told (map f new) → StepGoes g (map f all) step answer (map f back)
goes_lent f g lent all new back step told answer is ends named makes refused counted uncounted rose tells others =
    let goes : StepGoes g (map f lent) told answer (map f new) = record {
      steps = λ real h knows. makes real h;
      follows = λ model s knows. steps_as g (map f lent) (map f new) model told answer (λ real h k. makes real h) s knows;
      refused = refused;
      counted = counted;
      uncounted = uncounted;
      rose = rose;
      told = tells;
      others = others;
    } in
    subst (λ (s : Step). StepGoes g (map f all) s answer (map f back)) (sym named)
    (subst (λ xs. StepGoes g (map f all) told answer (map f xs)) (sym ends)
    (subst (λ xs. StepGoes g (map f xs) told answer (map f new)) is goes))

-- one that changes nothing, since its bytes are refused
pub raw_goes : (g : Weigher) (sites : List SeenNode) (step : Step) (answer : Result Answer Refusal)
    → ((real : RealWorld State) → ShowsReal g sites real → KnowsBytes (reads real.codec) step → MakesRealStep g real (carried sites step) answer sites) → answer ≢ Err KeepFailed → StepGoes g sites step answer sites
raw_goes g sites step answer steps sound = record {
  steps = steps;
  follows = λ model s knows. steps_as g sites sites model step answer steps s knows;
  refused = on_err answer (all_same IsAsBefore as_before sites);
  counted = all_same FailedOnceAtMost once_at_most sites;
  uncounted = λ e. all_same FailedNoMore no_more sites;
  rose = λ e. absurd (sound e);
  told = all_same (IsTold answer) (untold answer) sites;
  others = λ name other. refl;
}
