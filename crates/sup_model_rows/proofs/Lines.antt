-- Short words for worked rows: the lines of a script.
use Rattle.std.specs.Prelude.{ℕ, true, false, [], Some, None}
use Rattle.sup_specs.specs.Values.{Bytes}
use Rattle.sup_specs.specs.declared.child.ChildSpec.{ChildSpec}
use Rattle.sup_specs.specs.declared.child.ExitReason.{ExitReason}
use Rattle.sup_replica.specs.declared.event.Event.{Event}
use Rattle.sup_replica.specs.declared.event.Event.TheVariants.{Join, Leave, Drain, Start, Replace, Delete, Register, Unregister, Exit, Ship, Push}
use Rattle.sup_replica.specs.declared.event.Act.TheVariants.{Event as Of, Stop, Restart}
use Rattle.sup_model.specs.declared.step.Step.{Step}
use Rattle.sup_model.specs.declared.step.Step.TheVariants.{Node as AtNode, Deliver as Delivery, Raw}
use Rattle.sup_model_rows.specs.Scripts.{Asked, steps}

abbrev pub event : Bytes → Event → Asked
event node e = steps (AtNode node (Of e) 0 true)

abbrev pub join : Bytes → Asked
join node = event node (Join [])

abbrev pub join_as : Bytes → Bytes → Asked
join_as node label = event node (Join label)

abbrev pub leave : Bytes → Bytes → Asked
leave node member = event node (Leave member)

abbrev pub drain : Bytes → Bytes → Asked
drain node member = event node (Drain member)

abbrev pub start : Bytes → Bytes → ChildSpec → Asked
start node id spec = event node (Start id spec)

abbrev pub replace : Bytes → Bytes → ChildSpec → Asked
replace node id spec = event node (Replace id spec)

abbrev pub delete : Bytes → Bytes → Asked
delete node id = event node (Delete id)

abbrev pub register : Bytes → Bytes → Bytes → Asked
register node name id = event node (Register name id)

abbrev pub unregister : Bytes → Bytes → Asked
unregister node name = event node (Unregister name)

abbrev pub exit : Bytes → Bytes → ℕ → ℕ → ExitReason → Asked
exit node id boot k reason = event node (Exit id (record { boot = boot; k = k }) reason)

abbrev pub ship : Bytes → Bytes → Asked
ship node to = event node (Ship to)

abbrev pub push : Bytes → Bytes → Asked
push node to = event node (Push to)

abbrev pub stop : Bytes → Asked
stop node = steps (AtNode node Stop 0 true)

abbrev pub restart : Bytes → Asked
restart node = steps (AtNode node Restart 0 true)

abbrev pub deliver : Bytes → ℕ → Asked
deliver from k = steps (Delivery from k None 0 0 true)

-- the same message at another node, and without its last bytes
abbrev pub deliver_at : Bytes → Bytes → ℕ → Asked
deliver_at node from k = steps (Delivery from k (Some node) 0 0 true)

abbrev pub deliver_cut : Bytes → ℕ → ℕ → Asked
deliver_cut from k drop = steps (Delivery from k None drop 0 true)

abbrev pub raw : Bytes → Bytes → Asked
raw node bytes = steps (Raw node bytes)

-- the same at a moment, and with a save that fails
abbrev pub step_at : ℕ → Step → Step
step_at now (AtNode node act before saves) = AtNode node act now saves
step_at now (Delivery from k at drop before saves) = Delivery from k at drop now saves
step_at now (Raw node bytes) = Raw node bytes

abbrev pub step_fails : Step → Step
step_fails (AtNode node act now saves) = AtNode node act now false
step_fails (Delivery from k at drop now saves) = Delivery from k at drop now false
step_fails (Raw node bytes) = Raw node bytes

abbrev pub as_step : (Step → Step) → Asked → Asked
as_step change (steps s) = steps (change s)
as_step change asked = asked

abbrev pub at_moment : ℕ → Asked → Asked
at_moment now = as_step (step_at now)

abbrev pub fails : Asked → Asked
fails = as_step step_fails
