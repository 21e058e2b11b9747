use Rattle.std.proofs.Common.{refl}
use Rattle.sup_supctl.proofs.words.run_with.Goals as goal

pub returns-in-Err-clause-without : goal.returns-in-Err-clause-without
returns-in-Err-clause-without g c = rw c.in-Err.is (record {
  usage = c.without_words.ensures.usage;
  memory = c.without_words.ensures.memory;
  unread = refl;
  unwritten = refl;
})
