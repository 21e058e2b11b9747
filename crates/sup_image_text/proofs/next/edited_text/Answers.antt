use Rattle.std.proofs.Common.{◌≡◌, subst}
use Rattle.sup_specs.specs.Values.{Bytes}
use Rattle.sup_wire.specs.RowTexts.{texts_of}
use Rattle.sup_wire.specs.ImageTexts.{closed_shown}
use Rattle.sup_image_text.specs.Places.{ForRows}
use Rattle.sup_image_text.specs.Next.{edited_rows}
use Rattle.sup_image_text.proofs.NextLaws.{next_is}
use Rattle.sup_image_text.proofs.next.edited_text.Goals as goal

pub returns : goal.returns
returns c old new was rows headed is_whole =
    let text = subst (λ (f : Bytes). ForRows c.args.texts.now.items (λ rs. c.in_ok-text.text ≡ closed_shown f (texts_of (edited_rows c.args.edits.now rs)))) c.deref.ensures.value c.in_ok-text.ensures.text in
    next_is old new c.args.texts.now c.in_ok-text.text c.args.edits.now c.args.heading.now c.in_ok-front.front.items c.in_ok-front.ensures.boot c.in_ok-front.ensures.count was rows headed is_whole c.in_ok-front.ensures.text c.in_ok-text.ensures.written text
