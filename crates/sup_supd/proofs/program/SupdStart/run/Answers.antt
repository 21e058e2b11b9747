use Rattle.sup_supd.proofs.ResultLaws.{if_ok}
use Rattle.sup_supd.proofs.program.SupdStart.run.Goals as goal

pub returns-in-Ok-clause-runs : goal.returns-in-Ok-clause-runs
returns-in-Ok-clause-runs g c = if_ok c.args.words (λ given runs. (runs, tt)) (rw c.in-Ok.ensures.new at c.run_given-left.ensures.runs)
