-- From an act of one node to a step of the world.
use Rattle.std.specs.Prelude.{◌≡◌, ℕ, ◌<◌, Bool, true, false, not, List, length, map, slice_set, Some, None, Result, Ok, Err, refl}
use Rattle.std.proofs.Common.{sym, ap, ◌∙◌, subst}
use mathlib.Core.Logic.{◌⊎◌, inl, inr}
use mathlib.Core.Bool.{true≢false}
use Rattle.sup_specs.specs.Values.{Bytes}
use Rattle.sup_tables.specs.States.{State}
use Rattle.sup_placement.specs.Place.{Weigher}
use Rattle.sup_replica.specs.declared.event.Event.TheVariants.{Join, Leave, Drain, Start, Replace, Delete, Register, Unregister, Exit, Ship, Push, Deliver}
use Rattle.sup_replica.specs.declared.event.Act.{Act}
use Rattle.sup_replica.specs.declared.event.Act.TheVariants.{Event as Of, Stop, Restart}
use Rattle.sup_replica.specs.declared.refusal.Refusal.{Refusal}
use Rattle.sup_replica.specs.declared.refusal.Refusal.TheVariants.{UnknownNode, OutOfMemory}
use Rattle.sup_replica.specs.Checks.{refused_if, then_do}
use Rattle.sup_replica.specs.ByTables.{by_tables}
use Rattle.sup_replica.specs.Stations.{Station, StationMove, station_step}
use Rattle.sup_node.specs.Texts.{reads_as}
use Rattle.sup_model.specs.declared.step.Step.{Step}
use Rattle.sup_model.specs.declared.step.Step.TheVariants.{Node as AtNode}
use Rattle.sup_model.specs.Worlds.{or_refused}
use Rattle.sup_model.specs.Posts.{StationPost, RealWorld, RealStepped, post_of, with_post, target_here, post_step, real_step, real_acted, real_after}
use Rattle.sup_model.specs.Refines.{real_answer_of}
use Rattle.sup_model.specs.Runs.{may_want, is_late}
use Rattle.sup_model.specs.Follows.{NamesAllDiffer}
use Rattle.sup_world.specs.declared.answer.Answer.{Answer}
use Rattle.sup_world.specs.Moves.{wants}
use Rattle.sup_world.specs.CarriedSteps.{brings_bytes}
use Rattle.sup_world.specs.SeenNodes.{SeenNode}
use Rattle.sup_world.specs.ToldAnswers.{SiteStands, ShowsReal, NodeAnswers, told_by, post_after}
use Rattle.sup_world.specs.FollowedSteps.{MakesRealStep}
use Rattle.sup_world.proofs.SitePlaceLaws.{place, post_in, name_of, set_place, set_same, set_names}

-- an act without bytes is the station's, whatever texts say
pub own_act : (real : RealWorld State) (s : Station State) (act : Act) (now : ℕ) (saves : Bool) → brings_bytes act ≡ false → post_step by_tables real s act now saves ≡ station_step by_tables (reads_as None) real.weigher s act now saves
own_act real s (Of (Deliver bytes)) now saves e = absurd (true≢false e)
own_act real s (Of (Join label)) now saves e = refl
own_act real s (Of (Leave m)) now saves e = refl
own_act real s (Of (Drain m)) now saves e = refl
own_act real s (Of (Start id spec)) now saves e = refl
own_act real s (Of (Replace id spec)) now saves e = refl
own_act real s (Of (Delete id)) now saves e = refl
own_act real s (Of (Register name id)) now saves e = refl
own_act real s (Of (Unregister name)) now saves e = refl
own_act real s (Of (Exit id inc reason)) now saves e = refl
own_act real s (Of (Ship to)) now saves e = refl
own_act real s (Of (Push to)) now saves e = refl
own_act real s Stop now saves e = refl
own_act real s Restart now saves e = refl

own_wants : (at : Bytes) (act : Act) (now : ℕ) (saves late : Bool) → brings_bytes act ≡ false → wants act late ≡ may_want (AtNode at act now saves) late
own_wants at (Of (Deliver bytes)) now saves late e = absurd (true≢false e)
own_wants at (Of (Join label)) now saves late e = refl
own_wants at (Of (Leave m)) now saves late e = refl
own_wants at (Of (Drain m)) now saves late e = refl
own_wants at (Of (Start id spec)) now saves late e = refl
own_wants at (Of (Replace id spec)) now saves late e = refl
own_wants at (Of (Delete id)) now saves late e = refl
own_wants at (Of (Register name id)) now saves late e = refl
own_wants at (Of (Unregister name)) now saves late e = refl
own_wants at (Of (Exit id inc reason)) now saves late e = refl
own_wants at (Of (Ship to)) now saves late e = refl
own_wants at (Of (Push to)) now saves late e = refl
own_wants at Stop now saves late e = refl
own_wants at Restart now saves late e = refl

module _ (g : Weigher) (real : RealWorld State) where
  abbrev pub next : StationPost State → Result (StationMove State) Refusal → Result (RealStepped State) Refusal
  next post x = then_do x (λ m. Ok (real_acted real post m))

  late_next : (post : StationPost State) (x : Result (StationMove State) Refusal) → is_late (next post x) ≡ is_late x
  late_next post (Ok m) = refl
  late_next post (Err r) = refl

  -- a step that is refused
  pub refuses : (step : Step) (r : Refusal) (sites : List SeenNode) → ShowsReal g sites real
      → (real_step by_tables real step ≡ Err r) ⊎ ((r ≡ OutOfMemory) × (may_want step (is_late (real_step by_tables real step)) ≡ true)) → MakesRealStep g real step (Err r) sites
  refuses step r sites h (inl e) = record { told = Err r; after = real; makes = inl (ap real_answer_of (sym e), ap (real_after by_tables real) (sym e)); tells = refl; shows = h }
  refuses step r sites h (inr e) = record { told = Err OutOfMemory; after = real; makes = inr (refl, e.1, refl); tells = e.0; shows = h }

  module _ (sites : List SeenNode) (h : ShowsReal g sites real) (name : Bytes) (post : StationPost State) (found : post_in real.posts name ≡ Some post) (named : name ≡ name_of post) (within : place sites name < length sites) (new : SeenNode) (same : name ≡ new.name) where
    distinct : NamesAllDiffer (map (λ s. s.name) (slice_set sites (place sites name) new))
    distinct = subst (λ ns. NamesAllDiffer ns) (sym (set_names sites name new same within)) h.apart

    -- its node refuses
    pub stays : SiteStands new post → ShowsReal g (slice_set sites (place sites name) new) real
    stays s = record { weigher_is = h.weigher_is; sites_stand = set_same sites real.posts name post new h.sites_stand within found s; apart = distinct }

    -- its node moves
    pub moves : (next : StationPost State) → name ≡ name_of next → SiteStands new next → ShowsReal g (slice_set sites (place sites name) new) (with_post real next)
    moves next n s = record { weigher_is = h.weigher_is; sites_stand = set_place sites real.posts name next new n h.apart h.sites_stand within s; apart = distinct }

    -- a step that is an act of this node
    pub steps : (step : Step) (act : Act) (x : Result (StationMove State) Refusal) → real_step by_tables real step ≡ next post x → ((late : Bool) → wants act late ≡ may_want step late)
        → (result : Result Answer Refusal) → NodeAnswers x post act result new → MakesRealStep g real step result (slice_set sites (place sites name) new)
    steps step act x is want (Ok answer) a =
        let e : real_step by_tables real step ≡ Ok (real_acted real post a.0) = is ∙ ap (next post) a.1 in
        record {
          told = Ok (told_by post a.0);
          after = with_post real (post_after post a.0);
          makes = inl (ap real_answer_of (sym e), ap (real_after by_tables real) (sym e));
          tells = a.2;
          shows = moves (post_after post a.0) (same ∙ a.3.name) a.3;
        }
    steps step act x is want (Err r) a = refuses step r (slice_set sites (place sites name) new) (stays a.1) (elim a.0 [
      | inl e ↦ inl (is ∙ ap (next post) e)
      | inr e ↦ inr (e.0, sym (want (is_late (real_step by_tables real step))) ∙ ap (wants act) (ap is_late is ∙ late_next post x) ∙ e.1)
    ])

  -- an act at a node
  pub acts : (at : Bytes) (act : Act) (now : ℕ) (saves : Bool) (post : StationPost State) → post_of real at ≡ Some post → target_here real act ≡ true → brings_bytes act ≡ false
      → real_step by_tables real (AtNode at act now saves) ≡ next post (station_step by_tables (reads_as None) real.weigher post.station act now saves)
  acts at act now saves post found target plain =
      ap (λ o. or_refused o UnknownNode (λ p. refused_if (not (target_here real act)) UnknownNode (next p (post_step by_tables real p.station act now saves)))) found
      ∙ ap (λ b. refused_if (not b) UnknownNode (next post (post_step by_tables real post.station act now saves))) target
      ∙ ap (next post) (own_act real post.station act now saves plain)

  pub act_wants : (at : Bytes) (act : Act) (now : ℕ) (saves : Bool) → brings_bytes act ≡ false → (late : Bool) → wants act late ≡ may_want (AtNode at act now saves) late
  act_wants at act now saves plain late = own_wants at act now saves late plain

  -- no such node
  pub nowhere : (at : Bytes) (act : Act) (now : ℕ) (saves : Bool) → post_of real at ≡ None → real_step by_tables real (AtNode at act now saves) ≡ Err UnknownNode
  nowhere at act now saves e = ap (λ o. or_refused o UnknownNode (λ p. refused_if (not (target_here real act)) UnknownNode (next p (post_step by_tables real p.station act now saves)))) e

  -- or no such target
  pub no_target : (at : Bytes) (act : Act) (now : ℕ) (saves : Bool) (post : StationPost State) → post_of real at ≡ Some post → target_here real act ≡ false → real_step by_tables real (AtNode at act now saves) ≡ Err UnknownNode
  no_target at act now saves post found target =
      ap (λ o. or_refused o UnknownNode (λ p. refused_if (not (target_here real act)) UnknownNode (next p (post_step by_tables real p.station act now saves)))) found
      ∙ ap (λ b. refused_if (not b) UnknownNode (next post (post_step by_tables real post.station act now saves))) target
