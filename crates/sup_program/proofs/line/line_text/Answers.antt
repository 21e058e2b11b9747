use Rattle.std.specs.Prelude.{◌≡◌, vec_items, refl}
use Rattle.sup_lines.specs.declared.line.Line.TheVariants as line
use Rattle.sup_world.specs.CarriedSteps.{seen_at}
use Rattle.sup_world.specs.SeenNodes.{sites_of}
use Rattle.sup_program.specs.Prints.{TellsNode, image_text, lead_text, message_text, node_text}
use Rattle.sup_world.proofs.FailureCountLaws.{failed_same}
use Rattle.sup_program.proofs.PrintedLineLaws.{looks}
use Rattle.sup_program.proofs.line.line_text.Goals as goal

pub returns-in-Step-clause-speaks : goal.returns-in-Step-clause-speaks
returns-in-Step-clause-speaks g c = λ model stands tells. rw c.in-Step.is (c.step_text.ensures.speaks c.args.peers.now model stands tells)

pub returns-in-Settle-clause-speaks : goal.returns-in-Settle-clause-speaks
returns-in-Settle-clause-speaks g c = λ model stands tells. rw c.in-Settle.is (c.exchange_text.ensures.speaks c.args.peers.now model stands)

pub returns-in-Show-clause-speaks : goal.returns-in-Show-clause-speaks
returns-in-Show-clause-speaks g c = λ model stands tells.
    rw c.in-Show.is (looks vec_items c.node_text.result g.G.Weigh.weight_of c.args.peers.now model _ (line.Show _) (λ said. said ≡ node_text model _) stands (λ said told. (refl, told)) (c.node_text.ensures model stands))

pub returns-in-Show-clause-counted : goal.returns-in-Show-clause-counted
returns-in-Show-clause-counted g c = failed_same _

pub returns-in-Inspect-clause-speaks : goal.returns-in-Inspect-clause-speaks
returns-in-Inspect-clause-speaks g c = λ model stands tells.
    rw c.in-Inspect.is (looks vec_items c.inspected_text.result g.G.Weigh.weight_of c.args.peers.now model _ (line.Inspect _) (λ said. TellsNode g.G.Weigh.weight_of c.args.peers.now _ (seen_at (sites_of c.args.world.now) _) said) stands (λ said told. (refl, told)) c.inspected_text.ensures)

pub returns-in-Inspect-clause-counted : goal.returns-in-Inspect-clause-counted
returns-in-Inspect-clause-counted g c = failed_same _

pub returns-in-Image-clause-speaks : goal.returns-in-Image-clause-speaks
returns-in-Image-clause-speaks g c = λ model stands tells.
    rw c.in-Image.is (looks vec_items c.image_text.result g.G.Weigh.weight_of c.args.peers.now model _ (line.Image _) (λ said. said ≡ image_text (seen_at (sites_of c.args.world.now) _)) stands (λ said told. (refl, told)) c.image_text.ensures)

pub returns-in-Image-clause-counted : goal.returns-in-Image-clause-counted
returns-in-Image-clause-counted g c = failed_same _

pub returns-in-Where-clause-speaks : goal.returns-in-Where-clause-speaks
returns-in-Where-clause-speaks g c = λ model stands tells.
    rw c.in-Where.is (looks vec_items c.lead_text.result g.G.Weigh.weight_of c.args.peers.now model _ (line.Where _ _) (λ said. said ≡ lead_text model _ _) stands (λ said told. (refl, told)) (c.lead_text.ensures model stands))

pub returns-in-Where-clause-counted : goal.returns-in-Where-clause-counted
returns-in-Where-clause-counted g c = failed_same _

pub returns-in-Message-clause-speaks : goal.returns-in-Message-clause-speaks
returns-in-Message-clause-speaks g c = λ model stands tells.
    rw c.in-Message.is (looks vec_items c.message_text.result g.G.Weigh.weight_of c.args.peers.now model _ (line.Message _ _) (λ said. said ≡ message_text (seen_at (sites_of c.args.world.now) _) _) stands (λ said told. (refl, told)) c.message_text.ensures)

pub returns-in-Message-clause-counted : goal.returns-in-Message-clause-counted
returns-in-Message-clause-counted g c = failed_same _
