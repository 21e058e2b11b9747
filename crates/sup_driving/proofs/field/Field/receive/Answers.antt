use Rattle.std.proofs.Common.{rules, ◌≡◌, ◌++◌, [], ◌∷◌, map, ap, sym, ◌∙◌, subst}
use Rattle.std.proofs.lemmas.List.{map-append}
use Rattle.sup_node_gate.specs.Gates.{view_of}
use Rattle.sup_links.specs.Ends.{taken_of}
use Rattle.sup_plan.specs.Calls.{deliveries}
use Rattle.sup_plan.specs.Sublists.{Sublist}
use Rattle.sup_posts.specs.Rounds.{MakesCalls, delivery}
use Rattle.sup_driving.proofs.RoundLaws.{makes_then}
use Rattle.sup_driving.proofs.field.Field.receive.Goals as goal

pub loop-preserved : goal.loop-preserved
loop-preserved g c =
    let text = c.in-Some-taken.text.items in
    let were = taken_of c.loop.exit in
    let more : taken_of c.take.new.self ≡ were ++ text ∷ [] = search rules in (
      tt,
      tt,
      c.deliver.ensures.of,
      c.take.ensures.link ∙ c.loop.invariant.3,
      subst (λ l. Sublist l (deliveries (view_of c.deliver.new.seat).seen)) (sym more) (c.in-Ok-deliver.ensures.delivered were c.loop.invariant.4),
      subst (λ l. MakesCalls (g.N.Runner.did c.args.self.now.runner.now c.args.post.now.name) (view_of c.args.seat.now) l (view_of c.deliver.new.seat)) (sym (ap (map delivery) more ∙ map-append delivery were (text ∷ [])))
          (makes_then (g.N.Runner.did c.args.self.now.runner.now c.args.post.now.name) (view_of c.args.seat.now) (view_of c.loop.seat) (view_of c.deliver.new.seat) (map delivery were) (delivery text ∷ []) c.loop.invariant.5 c.in-Ok-deliver.ensures.made),
    )
