use Rattle.std.proofs.Common.{length}
use Rattle.sup_lines.proofs.opening.+check_names.Given as goal

abbrev pub decreases-check_names : goal.decreases-check_names
decreases-check_names l = length l.words.now
