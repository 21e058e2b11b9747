use Rattle.std.proofs.Common.{length}
use Rattle.sup_supd.proofs.settings.+are_options.Given as goal

abbrev pub decreases-are_options : goal.decreases-are_options
decreases-are_options l = length l.words.now
