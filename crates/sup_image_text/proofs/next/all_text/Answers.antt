use Rattle.std.proofs.Common.{◌≡◌, subst}
use Rattle.sup_specs.specs.Values.{Bytes}
use Rattle.sup_tables.specs.Lent.{rows_lent}
use Rattle.sup_wire.specs.RowTexts.{texts_of}
use Rattle.sup_wire.specs.ImageTexts.{closed_shown}
use Rattle.sup_image_text.proofs.NextLaws.{all_is}
use Rattle.sup_image_text.proofs.next.all_text.Goals as goal

pub returns : goal.returns
returns c new headed same is_whole =
    let text = subst (λ (f : Bytes). c.in_ok-text.text ≡ closed_shown f (texts_of (rows_lent c.args.rows.now))) c.deref.ensures.value c.in_ok-text.ensures.text in
    all_is new c.args.rows.now c.in_ok-text.text c.args.heading.now c.in_ok-front.front.items c.in_ok-front.ensures.boot c.in_ok-front.ensures.count headed same is_whole c.in_ok-front.ensures.text c.in_ok-text.ensures.written text
