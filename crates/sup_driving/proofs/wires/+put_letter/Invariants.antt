use Rattle.std.proofs.Common.{length}
use Rattle.sup_driving.proofs.wires.+put_letter.Given as goal

abbrev pub decreases-put_letter : goal.decreases-put_letter
decreases-put_letter g l = length l.wires.now
