-- What a node that runs answers to mail, and what it becomes. For private clauses (the rule of deliveries).
use Rattle.std.specs.Prelude.{◌≡◌, true, None, Result, Ok, Err}
use mathlib.Core.Logic.{◌⊎◌}
use Rattle.sup_tables.specs.States.{State}
use Rattle.sup_placement.specs.Place.{Weigher}
use Rattle.sup_replica.specs.declared.refusal.Refusal.{Refusal}
use Rattle.sup_replica.specs.declared.refusal.Refusal.TheVariants.{OutOfMemory}
use Rattle.sup_replica.specs.ByTables.{by_tables}
use Rattle.sup_replica.specs.Stations.{Station, Mail, mail_step}
use Rattle.sup_node.specs.declared.change.Ready.{Ready}
use Rattle.sup_node.specs.declared.planned.Planned.{Planned}
use Rattle.sup_node.specs.NodeSteps.{IsReady}
use Rattle.sup_node.specs.Placed.{keeps_placed}

abbrev pub TakesMail : Weigher → Station State → Mail State → Result Planned Refusal → Type 0
TakesMail g s mail (Ok p) = IsReady g (mail_step by_tables g s mail) s p
TakesMail g s mail (Err r) = (mail_step by_tables g s mail true ≡ Err r) ⊎ (r ≡ OutOfMemory)

-- the same, whatever children are weighed by, where the node keeps what is placed on it
abbrev pub TakesMailPlaced : Station State → Mail State → Result Planned Refusal → Type 0
TakesMailPlaced s mail result = (g : Weigher) → keeps_placed g s.node ≡ true → TakesMail g s mail result

-- what was made ready, with no letter
abbrev pub planned_of : Result Ready Refusal → Result Planned Refusal
planned_of (Ok p) = Ok (record { done = record { reply = p.reply; effects = p.effects; out = None }; change = p.change })
planned_of (Err r) = Err r
