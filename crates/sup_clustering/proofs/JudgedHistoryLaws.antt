-- What a judgement of histories tells; and histories that a plan's threads gave can be judged, so that a refusal is that of a replay.
use Rattle.std.specs.Prelude.{◌≡◌, ◌≢◌, ◌≤◌, ℕ, Bool, false, All, List, [], ◌∷◌, length, Result, Ok, Err, IfOk, IfErr, refl}
use Rattle.std.specs.List.{AllByRecursion, IsDistinct}
use Rattle.std.specs.Str.{bytes_eq}
use Rattle.std.specs.Cmp.Lexicographic.{nat_list_eq_equiv}
use Rattle.std.proofs.Common.{sym, ap, ◌∙◌, subst, arith}
use Rattle.std.proofs.lemmas.Map.Text.{is_eq-slice_cmp}
use mathlib.Core.Logic.{◌⊎◌, inl, inr}
use Rattle.sup_specs.specs.Values.{Bytes}
use Rattle.sup_placement.specs.Place.{Weigher}
use Rattle.sup_local_sup.specs.declared.effect.Effect.{Effect}
use Rattle.sup_model.specs.Follows.{NameIsApart, NamesAllDiffer}
use Rattle.sup_plan.specs.Plans.{IsPlan}
use Rattle.sup_plan.specs.declared.histories.History.{History}
use Rattle.sup_plan.specs.declared.plan.Plan.{Plan}
use Rattle.sup_world.specs.WorldNames.{AreWorldNames}
use Rattle.sup_world.specs.SeenNodes.{SeenNode}
use Rattle.sup_driving.specs.PlannedRuns.{Planned}
use Rattle.sup_driving.specs.declared.runner.Quiet.{Quiet}
use Rattle.sup_cluster.specs.Ran.{IsRanBy, Ran}
use Rattle.sup_cluster.specs.Runs.{IsRunOf}
use Rattle.sup_certify.specs.Certified.{IsNewWorld}
use Rattle.sup_certify.specs.Complete.{TellsNoRun}
use Rattle.sup_certify.specs.Faults.{CanJudge, IsFaultFrom, IsFaultOf}
use Rattle.sup_certify.specs.declared.fault.CertifyFault.{CertifyFault}
use Rattle.sup_certify.specs.declared.fault.CertifyFault.TheVariants as judged
use Rattle.sup_posts.specs.declared.fault.RunFault.{RunFault}
use Rattle.sup_posts.specs.declared.fault.RunFault.TheVariants as run
use Rattle.sup_cluster_texts.specs.Faults.{of_certify, of_run}
use Rattle.sup_cluster_texts.specs.declared.fault.ClusterFault.{ClusterFault}
use Rattle.sup_cluster_texts.specs.declared.fault.ClusterFault.TheVariants.{Job, HistoryFull, LinkClosed, Stuck, Differs}
use Rattle.sup_clustering.specs.declared.told.Untold.{Untold}
use Rattle.sup_clustering.specs.declared.told.Untold.TheVariants.{Stopped, Refused}
use Rattle.sup_clustering.specs.CertifiedPlans.{IsGiven, IsRefused, IsUntold, IsUntoldOf, fault_of}
use Rattle.sup_clustering.specs.Verdicts.{IsNoRun, RefusesHistories}

-- ---- the judgement
-- a fault of a replay, where memory was not wanted
no_run : (g : Weigher) (plan : Plan) (hs : List History) (fault : CertifyFault) → fault ≢ judged.OutOfMemory → CanJudge plan.nodes.items hs
    → (fault ≡ judged.OutOfMemory) ⊎ ((start : List SeenNode) × IsNewWorld g plan.config plan.nodes.items start × IsFaultFrom g start hs fault) → TellsNoRun g plan.config plan.nodes.items hs fault → IsNoRun g plan hs fault
no_run g plan hs fault room can (inl e) none = absurd (room e)
no_run g plan hs fault room can (inr r) none = record { judged = can; start = r.0; is_new = r.1; ends = r.2; none = none room }

-- they can't be judged, or make no run
unjudged_or_none : (g : Weigher) (plan : Plan) (hs : List History) (fault : CertifyFault) → fault ≢ judged.OutOfMemory → IsFaultOf g plan.config plan.nodes.items hs fault → TellsNoRun g plan.config plan.nodes.items hs fault
    → (¬ CanJudge plan.nodes.items hs) ⊎ IsNoRun g plan hs fault
unjudged_or_none g plan hs fault room (inl f) none = inl f.1
unjudged_or_none g plan hs fault room (inr f) none = inr (no_run g plan hs fault room f.0 f.1 none)

-- those that can't be judged are stuck
none_unless_stuck : (g : Weigher) (plan : Plan) (hs : List History) (fault : CertifyFault) → fault ≢ judged.OutOfMemory → fault ≢ judged.Stuck → IsFaultOf g plan.config plan.nodes.items hs fault → TellsNoRun g plan.config plan.nodes.items hs fault
    → IsNoRun g plan hs fault
none_unless_stuck g plan hs fault room free (inl f) none = absurd (free f.0)
none_unless_stuck g plan hs fault room free (inr f) none = no_run g plan hs fault room f.0 f.1 none

-- why histories that are judged so aren't printed
pub refused : (g : Weigher) (plan : Plan) (hs : List History) (fault : CertifyFault) → IsFaultOf g plan.config plan.nodes.items hs fault → TellsNoRun g plan.config plan.nodes.items hs fault → RefusesHistories g plan hs (of_certify fault)
refused g plan hs judged.OutOfMemory f none = refl
refused g plan hs judged.Stuck f none = unjudged_or_none g plan hs judged.Stuck (λ e. cc) f none
refused g plan hs (judged.Differs node place) f none = none_unless_stuck g plan hs (judged.Differs node place) (λ e. cc) (λ e. cc) f none

-- the verdict that a judgement is told as
pub refused_as : {R : Type 0} (g : Weigher) (plan : Plan) (hs : List History) (judgement : Result R CertifyFault) (told : Result R ClusterFault) → IfOk judgement (λ r. told ≡ Ok r) → IfErr judgement (λ f. told ≡ Err (of_certify f))
    → IfErr judgement (IsFaultOf g plan.config plan.nodes.items hs) → IfErr judgement (TellsNoRun g plan.config plan.nodes.items hs) → IfErr told (RefusesHistories g plan hs)
refused_as {R = R} g plan hs (Ok r) told good bad f none = subst (λ (t : Result R ClusterFault). IfErr t (RefusesHistories g plan hs)) (sym good) tt
refused_as {R = R} g plan hs (Err fault) told good bad f none = subst (λ (t : Result R ClusterFault). IfErr t (RefusesHistories g plan hs)) (sym bad) (refused g plan hs fault f none)

-- ---- what threads gave
-- names that differ, as a plan says it, differ as the model says it
apart_from : (name : Bytes) (others : List Bytes) → AllByRecursion (λ o. bytes_eq name o ≡ false) others → NameIsApart name others
apart_from name [] a = tt
apart_from name (o ∷ os) a = (is_eq-slice_cmp name o ∙ a.0, is_eq-slice_cmp o name ∙ nat_list_eq_equiv.symm o name ∙ a.0, apart_from name os a.1)

distinct_names : (names : List Bytes) → IsDistinct bytes_eq names → NamesAllDiffer names
unfolding IsDistinct
distinct_names [] d = tt
distinct_names (name ∷ names) d = (apart_from name names d.0, distinct_names names d.1)

-- a plan's names make a world
names_make : (plan : Plan) → IsPlan plan → AreWorldNames plan.nodes.items
names_make plan p = record { some = omega (arith, p.few.0); few = omega (arith, p.few.1); apart = distinct_names plan.nodes.items p.distinct }

-- where they can be judged, they make no run
pub none_judged : (g : Weigher) (plan : Plan) (hs : List History) (fault : CertifyFault) → CanJudge plan.nodes.items hs → (¬ CanJudge plan.nodes.items hs) ⊎ IsNoRun g plan hs fault → IsNoRun g plan hs fault
none_judged g plan hs fault can (inl cannot) = absurd (cannot can)
none_judged g plan hs fault can (inr none) = none

module _ (g : Weigher) (did : Bytes → Effect → Bool → Type 0) (bound : ℕ) (plan : Plan) where
  -- what a plan's threads gave can be judged
  can_judge : (hs : List History) → IsPlan plan → IsGiven g did bound plan hs → CanJudge plan.nodes.items hs
  can_judge hs p given = record { are_of = given.ran.nodes; named = names_make plan p }

  -- why what a plan's threads gave isn't printed
  refused_given : (hs : List History) (fault : ClusterFault) → IsPlan plan → IsGiven g did bound plan hs → RefusesHistories g plan hs fault → IsRefused g did bound plan fault
  refused_given hs (Job fault) p given r = r
  refused_given hs HistoryFull p given r = tt
  refused_given hs LinkClosed p given r = tt
  refused_given hs Stuck p given r = record { histories = hs; given = given; no_run = none_judged g plan hs judged.Stuck (can_judge hs p given) r }
  refused_given hs (Differs node place) p given r = record { histories = hs; given = given; no_run = r }

  -- why there is nothing to print where they gave no histories
  refused_run : (fault : RunFault) → IsRefused g did bound plan (of_run fault)
  refused_run run.BadPlan = refl
  refused_run run.HistoryFull = tt
  refused_run run.LinkClosed = tt
  refused_run run.OutOfMemory = refl

  -- what they gave, where something is told of it
  pub given_ended : {R S E : Type 0} (histories : R → List History) (of : S → R) (ended : Result R RunFault) (told : Result S E) → IfOk ended (λ r. IsRunOf g did plan (histories r))
      → IfOk ended (λ r. All (λ (h : History). length h.entries.items ≤ bound) (histories r)) → IfOk told (λ s. ended ≡ Ok (of s)) → IfOk told (λ s. IsGiven g did bound plan (histories (of s)))
  given_ended {R = R} histories of ended (Ok s) ran bounded these = record {
    ran = subst (λ (e : Result R RunFault). IfOk e (λ r. IsRunOf g did plan (histories r))) these ran;
    bounded = subst (λ (e : Result R RunFault). IfOk e (λ r. All (λ (h : History). length h.entries.items ≤ bound) (histories r))) these bounded;
  }
  given_ended histories of ended (Err fault) ran bounded these = tt

  -- why there is nothing to print where nothing is told of a planned run
  pub refused_untold : {N : Type 0} (planned : Planned N Quiet) (untold : Untold N) → planned.bound ≡ bound → planned.plan ≡ plan → IsPlan plan → IsUntold g did planned untold → IsRefused g did bound plan (fault_of untold)
  refused_untold planned (Stopped fault) most same p u = refused_run fault
  refused_untold planned (Refused fault ran) most same p u = refused_given ran.histories fault p
      (subst (λ (x : ℕ). IsGiven g did x plan ran.histories) most (subst (λ (x : Plan). IsGiven g did planned.bound x ran.histories) same u.1))
      (subst (λ (x : Plan). RefusesHistories g x ran.histories fault) same u.2)

  pub no_bad_plan : {N : Type 0} (planned : Planned N Quiet) (untold : Untold N) → IsUntold g did planned untold → untold ≢ Stopped run.BadPlan
  no_bad_plan planned untold u is = (subst (IsUntold g did planned) is u) refl

  -- why nothing is told of a planned run whose threads ended so
  untold_of : {N : Type 0} (planned : Planned N Quiet) (ended : Result (Ran N Quiet) RunFault) (untold : Untold N) → ended ≢ Err run.BadPlan → IfOk ended (λ r. IsGiven g did planned.bound planned.plan r.histories)
      → IfOk ended (IsRanBy planned) → IsUntoldOf g planned.plan ended untold → IsUntold g did planned untold
  untold_of planned ended (Stopped fault) good given by u = λ is. good (u ∙ ap Err is)
  untold_of {N = N} planned ended (Refused fault ran) good given by u =
      (subst (λ (e : Result (Ran N Quiet) RunFault). IfOk e (IsRanBy planned)) u.0 by, subst (λ (e : Result (Ran N Quiet) RunFault). IfOk e (λ r. IsGiven g did planned.bound planned.plan r.histories)) u.0 given, u.1)

  pub untold_ended : {N S : Type 0} (planned : Planned N Quiet) (ended : Result (Ran N Quiet) RunFault) (told : Result S (Untold N)) → ended ≢ Err run.BadPlan → IfOk ended (λ r. IsRunOf g did planned.plan r.histories)
      → IfOk ended (λ r. All (λ (h : History). length h.entries.items ≤ planned.bound) r.histories) → IfOk ended (IsRanBy planned) → IfErr told (IsUntoldOf g planned.plan ended) → IfErr told (IsUntold g did planned)
  untold_ended planned ended (Ok s) good ran bounded by u = tt
  untold_ended planned (Ok r) (Err untold) good ran bounded by u = untold_of planned (Ok r) untold good (record { ran = ran; bounded = bounded }) by u
  untold_ended planned (Err fault) (Err untold) good ran bounded by u = untold_of planned (Err fault) untold good tt by u

-- what is so of how they ended is so of what is told of just that
pub so_told : {R S E F : Type 0} (P : R → Type 0) (of : S → R) (ended : Result R F) (told : Result S E) → IfOk ended P → IfOk told (λ s. ended ≡ Ok (of s)) → IfOk told (λ s. P (of s))
so_told {R = R} {F = F} P of ended (Ok s) so these = subst (λ (e : Result R F). IfOk e P) these so
so_told P of ended (Err fault) so these = tt
