-- Bytes that nobody sent, as a step of the world.
use Rattle.std.specs.Prelude.{◌≡◌, ◌≢◌, not, Bool, Option, Some, None, Result, Err, List, length, refl}
use Rattle.std.proofs.Common.{sym, ap, ◌∙◌}
use mathlib.Core.Logic.{inl, inr}
use Rattle.sup_specs.specs.Values.{Bytes}
use Rattle.sup_tables.specs.States.{State}
use Rattle.sup_placement.specs.Place.{Weigher}
use Rattle.sup_replica.specs.declared.refusal.Refusal.{Refusal}
use Rattle.sup_replica.specs.declared.refusal.Refusal.TheVariants.{Down, UnknownNode, NoSuchMessage, BadMessage, KeepFailed}
use Rattle.sup_replica.specs.Checks.{refused_if}
use Rattle.sup_replica.specs.ByTables.{by_tables}
use Rattle.sup_replica.specs.Stations.{Station}
use Rattle.sup_model.specs.declared.step.Step.TheVariants.{Raw}
use Rattle.sup_model.specs.Worlds.{or_refused}
use Rattle.sup_model.specs.Posts.{StationPost, RealWorld, RealStepped, reads, real_step}
use Rattle.sup_world.specs.CarriedSteps.{KnowsBytes}
use Rattle.sup_world.specs.ComingLetters.{IsRawRefusal}
use Rattle.sup_world.specs.StandingStations.{IsNodeOf}
use Rattle.sup_world.specs.SeenNodes.{SeenNode}
use Rattle.sup_world.specs.ToldAnswers.{ShowsReal}
use Rattle.sup_world.specs.FollowedSteps.{MakesRealStep}
use Rattle.sup_world.proofs.SitePlaceLaws.{place}
use Rattle.sup_world.proofs.WorldStepLaws.{refuses}
use Rattle.sup_world.proofs.NodeActLaws.{Here, absent}

-- they are refused for no save
pub raw_sound : (node : Option (Station State)) (bytes : Bytes) (r : Refusal) → IsRawRefusal node bytes r → r ≢ KeepFailed
raw_sound None bytes r e f = absurd cc
raw_sound (Some n) bytes r (inl e) f = let is : r ≡ BadMessage = e.0 in absurd cc
raw_sound (Some n) bytes r (inr (inl e)) f = let is : r ≡ NoSuchMessage = e.0 in absurd cc
raw_sound (Some n) bytes r (inr (inr e)) f = absurd cc

module _ (g : Weigher) (real : RealWorld State) (sites : List SeenNode) (h : ShowsReal g sites real) (at bytes : Bytes) where
  abbrev refusing : Bool → Bool → Result (RealStepped State) Refusal
  refusing up is_message = refused_if (not up) Down (refused_if (not is_message) BadMessage (Err NoSuchMessage))

  abbrev at_post : StationPost State → Result (RealStepped State) Refusal
  at_post post = refusing post.station.node.up (reads real.codec bytes)

  -- no such node
  pub raw_nowhere : place sites at ≡ length sites → MakesRealStep g real (Raw at bytes) (Err UnknownNode) sites
  raw_nowhere e = refuses g real (Raw at bytes) UnknownNode sites h (inl (ap (λ o. or_refused o UnknownNode at_post) (absent g real sites h at e)))

  module _ (s : SeenNode) (p : Here real s at) where
    is_at : real_step by_tables real (Raw at bytes) ≡ at_post p.post
    is_at = ap (λ o. or_refused o UnknownNode at_post) p.found

    refused_by : (node : Option (Station State)) → IsNodeOf p.post.station node → KnowsBytes (reads real.codec) (Raw at bytes) → (r : Refusal) → IsRawRefusal node bytes r → MakesRealStep g real (Raw at bytes) (Err r) sites
    refused_by None n knows r e =
        refuses g real (Raw at bytes) r sites h (inl (is_at ∙ ap (λ up. refusing up (reads real.codec bytes)) n.down ∙ ap Err (sym e)))
    refused_by (Some q) n knows r (inl e) =
        refuses g real (Raw at bytes) r sites h (inl (is_at ∙ ap (λ up. refusing up (reads real.codec bytes)) n.1 ∙ ap (refusing Bool.true) (knows None e.1) ∙ ap Err (sym e.0)))
    refused_by (Some q) n knows r (inr (inl e)) =
        refuses g real (Raw at bytes) r sites h (inl (is_at ∙ ap (λ up. refusing up (reads real.codec bytes)) n.1 ∙ ap (refusing Bool.true) (knows (Some e.1.0) e.1.1) ∙ ap Err (sym e.0)))
    refused_by (Some q) n knows r (inr (inr e)) = refuses g real (Raw at bytes) r sites h (inr (e, refl))

    pub raw_refused : KnowsBytes (reads real.codec) (Raw at bytes) → (r : Refusal) → IsRawRefusal s.kept_station.node bytes r → MakesRealStep g real (Raw at bytes) (Err r) sites
    raw_refused knows r e = refused_by s.kept_station.node p.stands.station.node knows r e
