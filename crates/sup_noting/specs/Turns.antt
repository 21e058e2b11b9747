-- What a step tells of nodes and of children (this project).
use Rattle.std.specs.Prelude.{ℕ, List, [], ◌∷◌}
use Rattle.sup_specs.specs.Values.{Bytes}
use Rattle.sup_local_sup.specs.declared.effect.Effect.{Effect}
use Rattle.sup_local_sup.specs.declared.effect.Effect.TheVariants.{Start, Stop as Ends}
use Rattle.sup_local_sup.specs.declared.effect.Incarnation.{Incarnation}
use Rattle.sup_model.specs.declared.step.Step.{Step}
use Rattle.sup_model.specs.declared.step.Step.TheVariants.{Node as AtNode, Deliver, Raw}
use Rattle.sup_picture.specs.declared.log.Change.{Change}
use Rattle.sup_picture.specs.declared.log.ChildRun.{ChildRun}
use Rattle.sup_picture.specs.declared.log.Turn.{Turn}
use Rattle.sup_picture.specs.declared.log.Turn.TheVariants.{Began, Ended, Down, Up}
use Rattle.sup_replica.specs.declared.event.Act.{Act}
use Rattle.sup_replica.specs.declared.event.Act.TheVariants.{Event as Of, Stop, Restart}
use Rattle.sup_replica.specs.declared.event.Event.{Event}
use Rattle.sup_replica.specs.declared.event.Event.TheVariants.{Exit}

abbrev pub run_of : Bytes → Incarnation → ChildRun
run_of id inc = record { child = id; boot = inc.boot; k = inc.k }

abbrev pub change_at : ℕ → Bytes → Turn → Change
change_at row node turn = record { node = node; turn = turn; row = row }

-- a run that is to begin begins, and one that is to end ends
abbrev pub effect_at : ℕ → Bytes → Effect → Change
effect_at row node (Start id inc spec) = change_at row node (Began (run_of id inc))
effect_at row node (Ends id inc) = change_at row node (Ended (run_of id inc))

-- a run that has ended
abbrev pub turns_by : ℕ → Bytes → Event → List Change
turns_by row node (Exit id inc reason) = change_at row node (Ended (run_of id inc)) ∷ []
turns_by row node event = []

abbrev pub turns_at : ℕ → Bytes → Act → List Change
turns_at row node Stop = change_at row node Down ∷ []
turns_at row node Restart = change_at row node Up ∷ []
turns_at row node (Of event) = turns_by row node event

-- a node that stops or runs again, or a run of a child that has ended
abbrev pub turns_of : ℕ → Step → List Change
turns_of row (AtNode node act now saves) = turns_at row node act
turns_of row (Deliver from k at drop now saves) = []
turns_of row (Raw node bytes) = []
