use Rattle.std.proofs.Common.{lit<}
use Rattle.std.proofs.lemmas.Str.Pattern.{split_once_first}
use Rattle.sup_lines.proofs.WordValues.{unpointed}
use Rattle.sup_lines.proofs.values.read_incarnation.Goals as goal

pub returns-in_default-clause-inc : goal.returns-in_default-clause-inc
returns-in_default-clause-inc c =
    unpointed _ (rw c.in_default.is at (split_once_first 46 c.args.word.now _ c.split_once.ensures.cases (lit< tt)))
