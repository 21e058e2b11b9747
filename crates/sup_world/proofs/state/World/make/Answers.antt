use Rattle.sup_world.specs.CarriedSteps.{carried}
use Rattle.sup_world.specs.SeenNodes.{sites_of}
use Rattle.sup_world.proofs.MadeStepLaws.{makes_err, makes_taken}
use Rattle.std.specs.Prelude.{Ok, Err}
use Rattle.sup_world.proofs.ExchangePairLaws.{refused_as, taken_as}
use Rattle.sup_world.proofs.state.World.make.Goals as goal

pub returns-in_err-answer-clause-makes : goal.returns-in_err-answer-clause-makes
returns-in_err-answer-clause-makes g c model h knows =
    makes_err g.W.Weigh.weight_of model (carried (sites_of c.args.self.now) c.args.step.now) c.args.tally.now (sites_of c.step.new.self) c.in_err-answer.field-0.0 c.from_residual.result c.from_residual.ensures.1 (c.in_err-answer.ensures.follows model h knows)

pub returns-clause-makes : goal.returns-clause-makes
returns-clause-makes g c model h knows =
    makes_taken g.W.Weigh.weight_of model (carried (sites_of c.args.self.now) c.args.step.now) c.args.tally.now c.take.new.self (sites_of c.step.new.self) c.in_ok-answer.answer c.take.result
    (c.in_ok-answer.ensures.follows model h knows) c.take.ensures.taken c.take.ensures.sent c.take.ensures.effects c.take.ensures.refused

pub returns-in_err-answer-clause-steps : goal.returns-in_err-answer-clause-steps
returns-in_err-answer-clause-steps g c = record {
  answer = Err c.in_err-answer.field-0.0;
  goes = record { steps = c.in_err-answer.ensures.steps; follows = c.in_err-answer.ensures.follows; refused = c.in_err-answer.ensures.refused; counted = c.in_err-answer.ensures.counted; uncounted = c.in_err-answer.ensures.uncounted; rose = c.in_err-answer.ensures.rose; told = c.in_err-answer.ensures.told; others = c.in_err-answer.ensures.others };
  noted = refused_as c.in_err-answer.field-0.0 c.args.tally.now c.from_residual.result c.from_residual.ensures.1;
}

pub returns-clause-steps : goal.returns-clause-steps
returns-clause-steps g c = record {
  answer = Ok c.in_ok-answer.answer;
  goes = record { steps = c.in_ok-answer.ensures.steps; follows = c.in_ok-answer.ensures.follows; refused = c.in_ok-answer.ensures.refused; counted = c.in_ok-answer.ensures.counted; uncounted = c.in_ok-answer.ensures.uncounted; rose = c.in_ok-answer.ensures.rose; told = c.in_ok-answer.ensures.told; others = c.in_ok-answer.ensures.others };
  noted = taken_as c.in_ok-answer.answer c.args.tally.now c.take.new.self c.take.result c.take.ensures.taken c.take.ensures.sent c.take.ensures.effects c.take.ensures.refused;
}
