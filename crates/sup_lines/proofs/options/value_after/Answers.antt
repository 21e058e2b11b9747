use Rattle.sup_lines.proofs.WordValues.{stripped}
use Rattle.sup_lines.proofs.options.value_after.Goals as goal

pub returns : goal.returns
returns c = stripped _ _ _ c.strip_prefix.ensures.cases
