use Rattle.sup_svg.specs.Pieces.{run_text}
use Rattle.sup_svg.proofs.bars.run_text.Goals as goal

pub returns : goal.returns
unfolding run_text
returns c = rw (c.as_str-child.ensures.value, c.in_ok-child.ensures, c.as_bytes.ensures.value, c.as_str.ensures.value) at c.format.ensures.ok
