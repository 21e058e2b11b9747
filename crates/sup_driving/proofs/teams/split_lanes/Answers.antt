use Rattle.std.proofs.Common.{rules, ◌++◌, [], ◌∷◌, All, ap, sym, ◌∙◌, append_assoc, subst, refl}
use Rattle.std.specs.List.{AllZip, AllByRecursion}
use Rattle.std.proofs.lemmas.List.Elements.{All-rest}
use Rattle.std.proofs.lemmas.Slice.Zip.{all_zipped_more}
use Rattle.sup_posts.specs.Jobs.{IsLane}
use Rattle.sup_driving.specs.Wires.{IsUnused}
use Rattle.sup_driving.specs.Teams.{IsWireOf, IsReceiveOf, IsReadyToReceive}
use Rattle.sup_posts.proofs.ItemLaws.{all_none, all_snoc}
use Rattle.sup_driving.proofs.ItemPlaceLaws.{first_of, each_more}
use Rattle.sup_driving.proofs.teams.split_lanes.Goals as goal

pub loop-lane-init : goal.loop-lane-init
loop-lane-init g c = (
  refl,
  subst (All (IsLane c.args.posts.now)) (sym c.into_iter-lane-iterator.ensures.into_iter_gives.0) c.requires,
  subst (AllZip (IsWireOf c.args.posts.now) []) (sym c.in_ok-wires.ensures.items) tt,
  subst (AllZip (IsReceiveOf {W = g.row.W.Denot} {h = g.W.Weigh}) []) (sym c.in_ok-receives.ensures.items) tt,
  subst (All (IsReadyToReceive c.args.posts.now)) (sym c.in_ok-receives.ensures.items) (all_none (IsReadyToReceive c.args.posts.now)),
  subst (AllByRecursion IsUnused) (sym c.in_ok-wires.ensures.items) tt,
)

pub split_lane-wire-requires : goal.split_lane-wire-requires
split_lane-wire-requires g c = first_of (IsLane c.args.posts.now) c.in-Some.lane c.next.new.self.rest.items (subst (All (IsLane c.args.posts.now)) c.in-Some.ensures.steps.0 c.loop-lane.invariant.1)

pub loop-lane-preserved : goal.loop-lane-preserved
loop-lane-preserved g c = (
  append_assoc c.loop-lane.yielded (c.in-Some.lane ∷ []) c.next.new.self.rest.items ∙ (ap (λ l. c.loop-lane.yielded ++ l) (sym c.in-Some.ensures.steps.0) ∙ c.loop-lane.invariant.0),
  All-rest (IsLane c.args.posts.now) c.in-Some.lane _ _ (search rules) c.loop-lane.invariant.1,
  subst (AllZip (IsWireOf c.args.posts.now) (c.loop-lane.yielded ++ c.in-Some.lane ∷ [])) (sym c.in_ok-push.ensures.items)
      (all_zipped_more (IsWireOf c.args.posts.now) c.loop-lane.yielded c.loop-lane.wires.items c.in-Some.lane c.split_lane-wire.result.0 c.loop-lane.invariant.2 c.split_lane-wire.ensures.wire),
  subst (AllZip IsReceiveOf (c.loop-lane.yielded ++ c.in-Some.lane ∷ [])) (sym c.in_ok-push-2.ensures.items)
      (all_zipped_more IsReceiveOf c.loop-lane.yielded c.loop-lane.receives.items c.in-Some.lane c.split_lane-wire.result.1 c.loop-lane.invariant.3 c.split_lane-wire.ensures.receive),
  subst (All (IsReadyToReceive c.args.posts.now)) (sym c.in_ok-push-2.ensures.items) (all_snoc (IsReadyToReceive c.args.posts.now) c.loop-lane.receives.items c.split_lane-wire.result.1 c.loop-lane.invariant.4 c.split_lane-wire.ensures.ready),
  subst (AllByRecursion IsUnused) (sym c.in_ok-push.ensures.items) (each_more IsUnused c.loop-lane.wires.items c.split_lane-wire.result.0 c.loop-lane.invariant.5 c.split_lane-wire.ensures.unused),
)
