use Rattle.std.proofs.Common.{ap, ◌∙◌}
use Rattle.sup_image_text.specs.Messages.{delta_back}
use Rattle.sup_image_text.proofs.DeltaTexts.{back_written}
use Rattle.sup_image_text.proofs.messages.back_of.Goals as goal

pub returns : goal.returns
returns c =
    back_written c.new-out.result c.key.new.self c.string.new.self c.key-2.new.self c.u64.new.self c.end_object.new.self c.as_str.result.now c.new-comma.result.items c.push.new.self.items c.into_inner.result.items c.new-comma.ensures.items c.in_ok-push.ensures.items c.new-out.ensures.before c.new-out.ensures.tokens
    c.in_ok-key.ensures.room.0 c.in_ok-key.ensures.ok c.in_ok-string.ensures.room.0 c.in_ok-string.ensures.ok c.in_ok-key-2.ensures.room.0 c.in_ok-key-2.ensures.ok c.in_ok-u64.ensures.room.0 c.in_ok-u64.ensures.ok c.in_ok-end_object.ensures.room.0 c.in_ok-end_object.ensures.ok
    c.into_inner.ensures.items
    ∙ ap delta_back c.as_str.ensures.value
