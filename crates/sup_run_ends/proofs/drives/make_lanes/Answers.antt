use Rattle.std.proofs.Common.{rules, arith, refl, ◌≡◌, ℕ, ◌++◌, [], ◌∷◌, map, All, sym, ap, ◌∙◌, subst, append_assoc}
use Rattle.std.proofs.lemmas.List.{map-append}
use Rattle.std.proofs.lemmas.List.Elements.{All-rest}
use Rattle.sup_posts.specs.Jobs.{Seat, IsSeatAt, IsLane}
use Rattle.sup_posts.proofs.ItemLaws.{all_none, all_snoc, none_left}
use Rattle.sup_posts.specs.Drives.{of_lane, LeadsToItsNode}
use Rattle.sup_run_ends.proofs.drives.make_lanes.Goals as goal

pub loop-dealt-init : goal.loop-dealt-init
loop-dealt-init g c =
    let none = sym c.new-lanes.ensures.items in (
      refl,
      subst (All (λ (d : ℕ × Seat g.row.W.Denot g.W.Weigh). IsSeatAt c.args.posts.now d.0 d.1)) (sym c.into_iter-dealt-iterator.ensures.into_iter_gives.0) c.requires,
      subst (All (IsLane c.args.posts.now)) none (all_none (IsLane c.args.posts.now)),
      ap (map of_lane) c.new-lanes.ensures.items,
      subst (All (LeadsToItsNode c.args.plan.now.scripts.items c.args.from.now c.args.posts.now)) none (all_none (LeadsToItsNode c.args.plan.now.scripts.items c.args.from.now c.args.posts.now)),
    )

pub make_lane-requires : goal.make_lane-requires
make_lane-requires g c = (subst (All (λ (d : ℕ × Seat g.row.W.Denot g.W.Weigh). IsSeatAt c.args.posts.now d.0 d.1)) c.in-Some.ensures.steps.0 c.loop-dealt.invariant.1) 0 c.in-Some.dealt (omega arith)

pub loop-dealt-preserved : goal.loop-dealt-preserved
loop-dealt-preserved g c =
    let put = sym c.in_ok-push.ensures.items in (
      append_assoc c.loop-dealt.yielded (c.in-Some.dealt ∷ []) c.next.new.self.rest.items ∙ (ap (λ l. c.loop-dealt.yielded ++ l) (sym (search rules)) ∙ c.loop-dealt.invariant.0),
      All-rest (λ (d : ℕ × Seat g.row.W.Denot g.W.Weigh). IsSeatAt c.args.posts.now d.0 d.1) c.in-Some.dealt _ _ (search rules) c.loop-dealt.invariant.1,
      subst (All (IsLane c.args.posts.now)) put (all_snoc (IsLane c.args.posts.now) c.loop-dealt.lanes.items c.in_ok-lane.lane c.loop-dealt.invariant.2 c.in_ok-lane.ensures.lane),
      ap (map of_lane) c.in_ok-push.ensures.items ∙ map-append of_lane c.loop-dealt.lanes.items (c.in_ok-lane.lane ∷ [])
          ∙ ap (λ l. l ++ of_lane c.in_ok-lane.lane ∷ []) c.loop-dealt.invariant.3 ∙ ap (λ x. c.loop-dealt.yielded ++ x ∷ []) c.in_ok-lane.ensures.passes,
      subst (All (LeadsToItsNode c.args.plan.now.scripts.items c.args.from.now c.args.posts.now)) put
          (all_snoc (LeadsToItsNode c.args.plan.now.scripts.items c.args.from.now c.args.posts.now) c.loop-dealt.lanes.items c.in_ok-lane.lane c.loop-dealt.invariant.4 c.in_ok-lane.ensures.to),
    )

pub returns-clause-passes : goal.returns-clause-passes
returns-clause-passes g c = c.loop-dealt.invariant.3
    ∙ none_left c.loop-dealt.yielded c.loop-dealt.dealt-iterator.rest.items c.args.row.items (sym c.loop-dealt.dealt-iterator.rest.ok.0 ∙ c.in-None.ensures.steps.0) (c.loop-dealt.invariant.0 ∙ c.into_iter-dealt-iterator.ensures.into_iter_gives.0)
