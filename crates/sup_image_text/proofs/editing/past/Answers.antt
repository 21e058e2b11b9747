use Rattle.std.proofs.Common.{arith}
use Rattle.sup_image_text.proofs.EditTexts.{past_more, past_end}
use Rattle.sup_image_text.proofs.editing.past.Goals as goal

pub returns-then-at-count-clause-past : goal.returns-then-at-count-clause-past
returns-then-at-count-clause-past c rows are = past_more c.args.at rows

pub returns-else-at-count-clause-past : goal.returns-else-at-count-clause-past
returns-else-at-count-clause-past c rows are = past_end rows c.args.texts.now.items c.args.at are (let h = c.if-at-count.false in omega (arith, h, c.count.ensures))
