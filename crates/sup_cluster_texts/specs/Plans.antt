-- The plan that an input says.
use Rattle.std.specs.Prelude.{◌≡◌, ◌≤◌, ℕ, List, length, map, Ok, Err}
use Rattle.sup_replica.specs.Configs.{Config}
use Rattle.sup_jobs.specs.declared.fault.Fault.{Fault}
use Rattle.sup_jobs.specs.declared.fault.Fault.TheVariants as job
use Rattle.sup_plan.specs.declared.plan.Plan.{Plan}
use Rattle.sup_lines.specs.Words.{Name}
use Rattle.sup_cluster_lines.specs.Links.{link_in}
use Rattle.sup_cluster_lines.specs.Script.{Asked, plan_script_of}

-- the plan has the script's nodes, links and commands, and each node has this setting
pub record IsPlanOf (setting : Config) (script : List Name × Asked) (plan : Plan) : Type 0 where
  pub config : plan.config ≡ setting
  pub nodes : plan.nodes.items ≡ script.0
  pub links : map link_in plan.scripts.items ≡ script.1.0
  pub commands : plan.commands.items ≡ script.1.1

-- the input isn't too long, and says this plan of nodes with this setting
pub record SaysPlan (config : Config) (input : List ℕ) (plan : Plan) : Type 0 where
  pub short : length input ≤ 1048576
  pub script : List Name × Asked
  pub read : plan_script_of input ≡ Ok script
  pub is_plan : IsPlanOf config script plan

-- why the input says no plan: its first bad line, or want of memory
abbrev pub IsReadFault : List ℕ → Fault → Type 0
IsReadFault input (job.BadLine number) = plan_script_of input ≡ Err number
IsReadFault input job.BadInput = ⊥
IsReadFault input (job.BadImage fault) = ⊥
IsReadFault input job.Device = ⊥
IsReadFault input job.OutOfMemory = Unit {0}
