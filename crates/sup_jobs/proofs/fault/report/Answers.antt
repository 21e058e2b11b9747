use Rattle.sup_jobs.proofs.fault.report.Goals as goal

pub returns-in-OutOfMemory : goal.returns-in-OutOfMemory
returns-in-OutOfMemory g c = rw c.in-OutOfMemory.is c.put_all-in-OutOfMemory.ensures
