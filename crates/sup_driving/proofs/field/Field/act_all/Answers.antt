use Rattle.std.proofs.Common.{◌≡◌, ◌++◌, [], ◌∷◌, append-nil, ap, sym, ◌∙◌, subst}
use Rattle.std.proofs.lemmas.List.Elements.{All-cons, All-nil, All-from_recursion, recursion_from_All}
use Rattle.sup_node_gate.specs.Gates.{view_of}
use Rattle.sup_posts.specs.Requests.{Unasked}
use Rattle.sup_driving.specs.Called.{AreOf, TellsEffects, effects_in}
use Rattle.sup_driving.proofs.PassCallLaws.{more_then, more_none}
use Rattle.sup_driving.proofs.field.Field.act_all.Goals as goal

pub loop-init : goal.loop-init
loop-init g c =
    let put : c.push_back.new.self.items ≡ c.args.requests ∷ [] = c.in-Ok.ensures.items ∙ ap (λ l. l ++ c.args.requests ∷ []) c.new-waiting.ensures.items in
    let only : effects_in c.push_back.new.self.items ≡ c.args.requests.effects = ap effects_in put ∙ append-nil c.args.requests.effects in (
      tt,
      tt,
      c.requires.of,
      subst (AreOf c.args.post.now.name) (sym put) (All-cons (λ (r : Unasked). r.node ≡ c.args.post.now.name) c.args.requests [] c.requires.asks (All-nil (λ (r : Unasked). r.node ≡ c.args.post.now.name))),
      more_none (view_of c.args.seat.now),
      λ u t. subst (λ l. TellsEffects (g.N.Runner.did c.args.self.now.runner.now c.args.post.now.name) c.args.now l (view_of c.args.seat.now) u) only t,
    )

pub make_all-requires-clause-waiting : goal.make_all-requires-clause-waiting
make_all-requires-clause-waiting g c =
    let name = c.args.post.now.name in
    let all : AreOf name (c.in-Some-pop_front.requests ∷ c.pop_front.new.self.items) = subst (AreOf name) c.in-Some-pop_front.ensures.items c.loop.invariant.3 in
    let IsOf = λ (r : Unasked). r.node ≡ name in
    All-from_recursion IsOf c.pop_front.new.self.items (recursion_from_All IsOf (c.in-Some-pop_front.requests ∷ c.pop_front.new.self.items) all).1

pub loop-preserved : goal.loop-preserved
loop-preserved g c = (
  tt,
  tt,
  c.make_all.ensures.of,
  c.in_ok-make_all.ensures.waiting,
  more_then (view_of c.args.seat.now) (view_of c.loop.seat) (view_of c.make_all.new.seat) c.loop.invariant.4 c.in_ok-make_all.ensures.seen,
  λ u t. c.loop.invariant.5 u
      (subst (λ l. TellsEffects (g.N.Runner.did c.args.self.now.runner.now c.args.post.now.name) c.args.now l (view_of c.loop.seat) u) (sym (ap effects_in c.in-Some-pop_front.ensures.items)) (c.in_ok-make_all.ensures.told u t)),
)
