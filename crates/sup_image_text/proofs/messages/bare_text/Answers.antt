use Rattle.sup_image_text.proofs.DeltaTexts.{bare_is}
use Rattle.sup_image_text.proofs.messages.bare_text.Goals as goal

pub returns : goal.returns
returns c =
    bare_is c.args.context.now c.in_ok-context.context c.empty-nothing.result c.args.from.now c.args.to.now c.args.n c.in-Ok.delta c.new.result.items c.in_ok-text.text.items c.in_ok-text.ensures.text c.requires.differ c.requires.number c.in-Ok.ensures.state c.new.ensures.items
    c.in_ok-context.ensures c.empty-nothing.ensures
