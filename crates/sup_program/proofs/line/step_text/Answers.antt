use Rattle.std.specs.Prelude.{vec_items}
use Rattle.std.proofs.Common.{◌∙◌, ap}
use Rattle.sup_program.specs.Prints.{said_of}
use Rattle.sup_program.proofs.PrintedLineLaws.{knows, spoken, step_speaks}
use Rattle.sup_program.proofs.line.step_text.Goals as goal

pub returns-in-Ok-clause-speaks : goal.returns-in-Ok-clause-speaks
returns-in-Ok-clause-speaks g c = λ peers model stands tells.
    let follows = c.step.ensures.follows model stands (knows model.is_message c.args.step.now tells) in
    let speaks = step_speaks g.G.Weigh.weight_of peers model c.args.step.now _ _ c.step.result c.requires.failing follows c.step.ensures.steps in
    spoken vec_items c.bytes_of.result _ _ _ _ _ speaks.0 _ (speaks.1 ∙ ap said_of c.in-Ok.is) (c.bytes_of.ensures _ c.answer_text.ensures)

pub returns-in-Err-clause-speaks : goal.returns-in-Err-clause-speaks
returns-in-Err-clause-speaks g c = λ peers model stands tells.
    let follows = c.step.ensures.follows model stands (knows model.is_message c.args.step.now tells) in
    let speaks = step_speaks g.G.Weigh.weight_of peers model c.args.step.now _ _ c.step.result c.requires.failing follows c.step.ensures.steps in
    spoken vec_items c.bytes_of-in-Err.result _ _ _ _ _ speaks.0 _ (speaks.1 ∙ ap said_of c.in-Err.is) (c.bytes_of-in-Err.ensures _ c.refusal_text.ensures)
