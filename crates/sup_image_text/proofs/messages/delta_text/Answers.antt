use Rattle.std.proofs.Common.{◌≡◌, ◌∙◌}
use Rattle.sup_array_text.specs.Arrays.{whole}
use Rattle.sup_wire.specs.declared.message.Message.TheVariants.{Delta}
use Rattle.sup_wire.specs.Drafts.{IsDraftOf}
use Rattle.sup_wire.specs.Faults.{IsInRange}
use Rattle.sup_wire.proofs.Adding.{says_text}
use Rattle.sup_image_text.specs.Messages.{delta_front, delta_back}
use Rattle.sup_image_text.proofs.DeltaTexts.{delta_is, delta_made}
use Rattle.sup_image_text.proofs.messages.delta_text.Goals as goal

pub returns-clause-text : goal.returns-clause-text
returns-clause-text c s are same is_whole =
    let b = c.in_ok-bare.ensures in
    let made : c.into_text.result.items ≡ whole (delta_front c.args.from.now c.args.n b.parts) c.args.texts.now.items (delta_back c.args.to.now) =
    delta_made c.args.context.now c.args.from.now c.args.to.now c.args.n c.in_ok-bare.bare.items c.before_rows-front.result.items c.in_ok-back.back.items c.deref.result.now c.into_text.result.items c.len.result c.count-2.result c.args.texts.now.items c.in_ok-begun.begun c.in_ok-made.made
    c.in_ok-text.text b c.in_ok-back.ensures (c.len.ensures ∙ c.in_ok-back.back.ok.0) c.before_rows-front.ensures c.in_ok-begun.ensures c.count-2.ensures c.in_ok-made.ensures c.deref.ensures.value c.in_ok-text.ensures c.into_text.ensures in
    delta_is c.args.from.now c.args.to.now c.args.n s c.args.context.now c.in_ok-bare.bare.items c.into_text.result.items c.args.texts.now.items b are same is_whole made

pub returns-clause-says : goal.returns-clause-says
returns-clause-says c s are same is_whole =
    says_text IsDraftOf IsInRange (Delta c.args.from.now c.args.to.now c.args.n s) c.into_text.result.items (returns-clause-text c s are same is_whole) (c.requires.differ, c.requires.number)
