use Rattle.std.specs.Prelude.{vec_items}
use Rattle.std.proofs.Common.{◌∙◌, ap}
use Rattle.sup_world.proofs.FailureCountLaws.{failed_no_more}
use Rattle.sup_program.specs.Prints.{said_settled}
use Rattle.sup_program.proofs.PrintedLineLaws.{settle_speaks, spoken}
use Rattle.sup_program.proofs.line.exchange_text.Goals as goal

pub returns-in-Ok-clause-speaks : goal.returns-in-Ok-clause-speaks
returns-in-Ok-clause-speaks g c = λ peers model stands.
    let speaks = settle_speaks g.G.Weigh.weight_of peers model _ _ c.settle.result (c.settle.ensures.follows model stands) c.settle.ensures.steps in
    spoken vec_items c.bytes_of.result _ _ _ _ _ speaks.0 _ (speaks.1 ∙ ap said_settled c.in-Ok.is) (c.bytes_of.ensures _ (rw c.as_slice.ensures at c.settled_text.ensures))

pub returns-in-Ok-clause-counted : goal.returns-in-Ok-clause-counted
returns-in-Ok-clause-counted g c = failed_no_more _ _ c.settle.ensures.counted

pub returns-in-Err-clause-speaks : goal.returns-in-Err-clause-speaks
returns-in-Err-clause-speaks g c = λ peers model stands.
    let speaks = settle_speaks g.G.Weigh.weight_of peers model _ _ c.settle.result (c.settle.ensures.follows model stands) c.settle.ensures.steps in
    spoken vec_items c.bytes_of-in-Err.result _ _ _ _ _ speaks.0 _ (speaks.1 ∙ ap said_settled c.in-Err.is) (c.bytes_of-in-Err.ensures _ c.refusal_text.ensures)

pub returns-in-Err-clause-counted : goal.returns-in-Err-clause-counted
returns-in-Err-clause-counted g c = failed_no_more _ _ c.settle.ensures.counted
