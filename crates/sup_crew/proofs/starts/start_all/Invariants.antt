use Rattle.std.proofs.Common.{◌≡◌, ◌++◌, All}
use Rattle.std.specs.List.{AllZip}
use Rattle.sup_crew.specs.Promises.{IsFor}
use Rattle.sup_crew.proofs.starts.start_all.Given as goal

abbrev pub invariant-loop-job : goal.invariant-loop-job
invariant-loop-job g l = (l.yielded ++ l.job-iterator.rest.items ≡ l.initial.job-iterator.rest.items) × All (g.W.Work.takes l.work) l.job-iterator.rest.items × AllZip (IsFor l.work) l.yielded l.handles.items
