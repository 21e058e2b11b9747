use Rattle.std.proofs.Common.{◌≡◌, ◌++◌, map, take, drop, length, sym, subst, rules, arith}
use Rattle.sup_model.specs.declared.step.Step.{Step}
use Rattle.sup_model.specs.declared.step.Step.TheVariants.{Node as AtNode, Deliver as Delivery, Raw}
use Rattle.sup_world.specs.SeenNodes.{seen_node_of, sites_of}
use Rattle.sup_world.specs.CarriedSteps.{carried, KnowsBytes}
use Rattle.sup_world.specs.FollowedSteps.{MakesRealStep}
use Rattle.sup_world.specs.ToldAnswers.{ShowsReal}
use Rattle.sup_model.specs.Posts.{reads}
use Rattle.sup_world.proofs.SeenListLaws.{lent_back}
use Rattle.sup_world.proofs.FollowedStepLaws.{goes_lent, raw_goes}
use Rattle.sup_world.proofs.state.World.carry_out.Goals as goal

pub returns-in-Node : goal.returns-in-Node
returns-in-Node g c =
    let all = c.args.self.now.sites in
    let new = c.act_at.new.sites in
    let left = take all.len (new ++ drop (length new) all.items) in
    let back : left ≡ new = lent_back all.len new all.items (first_of (search rules, omega (arith, all.ok.0))) (first_of (search rules, omega arith)) in
    let e = c.act_at.ensures in
    goes_lent seen_node_of g.W.Weigh.weight_of _ all.items new left c.args.step.now (AtNode c.in-Node.at c.in-Node.act c.in-Node.now c.in-Node.saves) c.act_at.result
    c.deref_mut.ensures.value back c.in-Node.is e.steps e.refused e.counted e.uncounted e.rose e.told e.others

pub returns-in-Deliver : goal.returns-in-Deliver
returns-in-Deliver g c =
    let all = c.args.self.now.sites in
    let new = c.deliver_at.new.sites in
    let left = take all.len (new ++ drop (length new) all.items) in
    let back : left ≡ new = lent_back all.len new all.items (first_of (search rules, omega (arith, all.ok.0))) (first_of (search rules, omega arith)) in
    let e = c.deliver_at.ensures in
    goes_lent seen_node_of g.W.Weigh.weight_of _ all.items new left c.args.step.now
    (Delivery c.in-Deliver.from c.in-Deliver.k c.in-Deliver.at c.in-Deliver.drop c.in-Deliver.now c.in-Deliver.saves) c.deliver_at.result
    c.deref_mut-in-Deliver.ensures.value back c.in-Deliver.is e.steps e.refused e.counted e.uncounted e.rose e.told e.others

pub returns-in-Raw : goal.returns-in-Raw
returns-in-Raw g c =
    let w = g.W.Weigh.weight_of in
    raw_goes w (sites_of c.args.self.now) c.args.step.now c.raw_at.result (λ real h knows.
    let here = subst (λ (s : Step). KnowsBytes (reads real.codec) s) c.in-Raw.is knows in
    subst (λ (s : Step). MakesRealStep w real (carried (sites_of c.args.self.now) s) c.raw_at.result (sites_of c.args.self.now)) (sym c.in-Raw.is)
    (subst (λ bytes. MakesRealStep w real (Raw c.in-Raw.at bytes) c.raw_at.result (sites_of c.args.self.now)) c.as_slice.ensures
    (subst (λ xs. MakesRealStep w real (Raw c.in-Raw.at c.as_slice.result.now) c.raw_at.result (map seen_node_of xs)) c.deref.ensures.value
    (c.raw_at.ensures.steps real (subst (λ xs. ShowsReal w (map seen_node_of xs) real) (sym c.deref.ensures.value) h) (subst (λ bytes. KnowsBytes (reads real.codec) (Raw c.in-Raw.at bytes)) (sym c.as_slice.ensures) here)))))
    c.raw_at.ensures.sound
