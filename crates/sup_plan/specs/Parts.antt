-- The parts of a plan.
use Rattle.std.specs.Prelude.{Bool, List, [], filter, find, ◌&&◌, Option, Some, None}
use Rattle.sup_specs.specs.Values.{Bytes}
use Rattle.sup_links.specs.declared.script.Verdict.{Verdict}
use Rattle.sup_replica.specs.Nodes.{is_named}
use Rattle.sup_plan.specs.declared.plan.Command.{Command}
use Rattle.sup_plan.specs.declared.plan.Route.{Route}

-- the commands of a node, in their order
abbrev pub commands_of : Bytes → List Command → List Command
commands_of name = filter (λ c. is_named name c.node)

-- it is a script of the link from one node to another
abbrev pub is_between : Bytes → Bytes → Route → Bool
is_between from to route = is_named from route.from && is_named to route.to

-- the verdicts of a script, and of no script none
abbrev pub verdicts_of : Option Route → List Verdict
verdicts_of None = []
verdicts_of (Some route) = route.script.0.items

-- the script of the link from one node to another
abbrev pub script_between : Bytes → Bytes → List Route → List Verdict
script_between from to scripts = verdicts_of (find (is_between from to) scripts)
