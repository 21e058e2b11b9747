use Rattle.std.proofs.Common.{length}
use Rattle.sup_supd.proofs.settings.+value_for.Given as goal

abbrev pub decreases-value_for : goal.decreases-value_for
decreases-value_for l = length l.words.now
