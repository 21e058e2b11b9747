use Rattle.std.proofs.Common.{◌≡◌, ◌++◌, List, [], ◌∷◌, false, Some, ap, sym, ◌∙◌, subst}
use Rattle.sup_node_gate.specs.Gates.{view_of}
use Rattle.sup_posts.specs.Requests.{Unasked}
use Rattle.sup_posts.specs.Rounds.{failed}
use Rattle.sup_posts.proofs.ItemLaws.{all_snoc}
use Rattle.sup_driving.specs.Called.{AreOf, AsksRunner}
use Rattle.sup_driving.proofs.PassCallLaws.{more_then, more_none, called_more}
use Rattle.sup_driving.proofs.RoundLaws.{asked_done, tells_on, tells_exit}
use Rattle.sup_driving.proofs.field.Field.make_all.Goals as goal

pub loop-init : goal.loop-init
loop-init g c = (tt, tt, c.requires.of, c.requires.asks, c.requires.waiting, more_none (view_of c.args.seat.now), λ u t. t)

pub loop-preserved-in_default-2 : goal.loop-preserved-in_default-2
loop-preserved-in_default-2 g c =
    let l = c.loop in let taken = c.in-Some-take.ensures.some in let effect = c.in-Some-take.request.effect in let later = c.take.new.self.effects in
    let did = g.N.Runner.did c.args.self.now.runner.now c.args.post.now.name in
    let asked : AsksRunner did effect c.in_ok-id.field-0
    = subst (λ n. AsksRunner (g.N.Runner.did c.args.self.now.runner.now n) effect c.in_ok-id.field-0) (taken.0 ∙ l.invariant.3) c.in_ok-id.ensures.asks in (
      tt,
      tt,
      l.invariant.2,
      c.take.ensures.node ∙ l.invariant.3,
      l.invariant.4,
      l.invariant.5,
      λ u t. l.invariant.6 u (tells_on did c.args.now l.requests.effects effect later l.waiting.items (view_of l.seat) u taken.1 (asked_done did effect c.in_ok-id.field-0 c.in_default-2.not-Some asked) t),
    )

pub loop-preserved : goal.loop-preserved
loop-preserved g c =
    let l = c.loop in let taken = c.in-Some-take.ensures.some in let effect = c.in-Some-take.request.effect in let later = c.take.new.self.effects in
    let name = c.args.post.now.name in let did = g.N.Runner.did c.args.self.now.runner.now name in
    let asked : AsksRunner did effect (Some (c.in-Some-2.id, c.in-Some-2.inc))
    = subst (λ o. AsksRunner did effect o) c.in-Some-2.is
    (subst (λ n. AsksRunner (g.N.Runner.did c.args.self.now.runner.now n) effect c.in_ok-id.field-0) (taken.0 ∙ l.invariant.3) c.in_ok-id.ensures.asks) in
    let called = c.in_ok-more.ensures.called in
    let grown : l.waiting.items ++ c.in_ok-more.more ∷ [] ≡ c.push_back.new.self.items = sym {A = List Unasked} c.in-Ok.ensures.items in (
      tt,
      tt,
      c.exit.ensures.of,
      c.take.ensures.node ∙ l.invariant.3,
      subst (AreOf name) grown (all_snoc (λ (r : Unasked). r.node ≡ name) l.waiting.items c.in_ok-more.more l.invariant.4 c.in_ok-more.ensures.asks),
      more_then (view_of c.args.seat.now) (view_of l.seat) (view_of c.exit.new.seat) l.invariant.5
          (called_more (view_of l.seat) (failed (c.in-Some-2.id, c.in-Some-2.inc)) c.args.now c.in_ok-more.more.effects (view_of c.exit.new.seat) called),
      λ u t. l.invariant.6 u (tells_exit did c.args.now l.requests.effects c.in-Some-2.id c.in-Some-2.inc asked.0 later l.waiting.items c.push_back.new.self.items c.in_ok-more.more
          (view_of l.seat) (view_of c.exit.new.seat) u (taken.1 ∙ ap (λ e. e ∷ later) asked.1) c.in-Ok.ensures.items (subst (λ e. did e false) asked.1 asked.2) called t),
    )
