-- What is seen of a run that was launched: what its drivers handed back, and by whom it was made.
use Rattle.std.specs.Prelude.{List, Result}
use Rattle.sup_posts.specs.declared.jobs.Driven.{Driven}
use Rattle.sup_posts.specs.declared.thread_fault.ThreadFault.{ThreadFault}
use Rattle.sup_driving.specs.PlannedRuns.{By}
use Rattle.sup_driving.specs.declared.launched.Launched.{Launched}

abbrev pub results_of : {W N C : Type 0} {h : _} → Launched W N C h → List (Result (Driven W h) ThreadFault)
results_of launched = launched.results.items

abbrev pub launched_by : {W N C : Type 0} {h : _} → Launched W N C h → By N C
launched_by launched = launched.by
