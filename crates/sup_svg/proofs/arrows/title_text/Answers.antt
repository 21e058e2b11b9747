use Rattle.sup_svg.specs.Pieces.{title_text}
use Rattle.sup_svg.proofs.arrows.title_text.Goals as goal

pub returns : goal.returns
unfolding title_text
returns c = rw (c.as_str-sender.ensures.value) at c.format.ensures.ok
