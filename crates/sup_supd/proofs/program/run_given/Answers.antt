use Rattle.std.proofs.Common.{refl}
use Rattle.sup_supd.proofs.program.run_given.Goals as goal

pub returns-in-Ok-clause-runs : goal.returns-in-Ok-clause-runs
returns-in-Ok-clause-runs g c = rw c.in-Ok.is (rw c.as_slice.ensures.value at c.run_words.ensures)

pub returns-in-Err-clause-fails : goal.returns-in-Err-clause-fails
returns-in-Err-clause-fails g c = rw c.in-Err.is (c.why_for-why.result, c.why_for-why.ensures, refl, refl, c.refuse.ensures)
