-- What the handle of a thread has to do with its job. (This project.)
use Rattle.std.specs.Prelude.{◌≡◌}
use Rattle.std.specs.declared.thread.PromisedHandle.{PromisedHandle}
use Rattle.sup_crew.specs.declared.work.Given.{Given}

-- the handle's thread was given this job and this work
abbrev pub IsFor : {J W T : Type 0} → W → J → PromisedHandle T (Given J W) → Type 0
IsFor w j h = (h.promise.job.value ≡ j) × (h.promise.work.value ≡ w)

-- the result is one that the work gives for the job, both as the handle's thread was given them
abbrev pub IsGivenAt : {J W T : Type 0} → (W → J → T → Type 0) → PromisedHandle T (Given J W) → T → Type 0
IsGivenAt gives h r = gives h.promise.work.value h.promise.job.value r
