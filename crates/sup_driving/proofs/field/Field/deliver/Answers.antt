use Rattle.std.proofs.Common.{◌++◌, [], ◌∷◌, subst}
use Rattle.std.proofs.lemmas.Result.{IfOk-weaker}
use Rattle.sup_node_gate.specs.Gates.{view_of}
use Rattle.sup_posts.specs.Rounds.{MakesCalls, delivery}
use Rattle.sup_driving.proofs.PassCallLaws.{delivered_one, more_deliveries}
use Rattle.sup_driving.proofs.RoundLaws.{makes_one}
use Rattle.sup_driving.proofs.field.Field.deliver.Goals as goal

pub returns-clause-delivered : goal.returns-clause-delivered
returns-clause-delivered g c = λ texts h. IfOk-weaker c.act_all.result _ _
    (λ u more. more_deliveries (texts ++ c.args.text.items ∷ []) (view_of c.call.new.seat) (view_of c.act_all.new.seat) more
    (delivered_one texts (view_of c.args.seat.now) c.new.result c.args.text.items 0 c.in_ok-requests.requests.effects (view_of c.call.new.seat) c.in_ok-requests.ensures.called c.new.ensures h))
    c.act_all.ensures.seen

pub returns-clause-made : goal.returns-clause-made
returns-clause-made g c = IfOk-weaker c.act_all.result _ _
    (λ u told. subst (λ l. MakesCalls (g.N.Runner.did c.args.self.now.runner.now c.args.post.now.name) (view_of c.args.seat.now) (delivery l ∷ []) (view_of c.act_all.new.seat)) c.new.ensures
    (makes_one (g.N.Runner.did c.args.self.now.runner.now c.args.post.now.name) (view_of c.args.seat.now) (view_of c.call.new.seat) (view_of c.act_all.new.seat) _ 0 c.in_ok-requests.requests.effects c.in_ok-requests.ensures.called told))
    c.act_all.ensures.told
