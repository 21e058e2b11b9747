-- The lines of links (this project's script format).
use Rattle.std.specs.Prelude.{◌&&◌, List, ◌∷◌, Option, Some, None, if◌then◌else◌}
use Rattle.sup_links.specs.declared.script.Verdict.{Verdict}
use Rattle.sup_plan.specs.declared.plan.Route.{Route}
use Rattle.sup_plan.specs.Plans.{is_among, is_peer}
use Rattle.sup_lines.specs.Words.{Word, Name, ◌>>=◌}
use Rattle.sup_lines.specs.Values.{node_name_of}
use Rattle.sup_cluster_lines.specs.Verdicts.{verdicts_of}

-- the link from one node to another, with its script
abbrev pub Link : Type 0
Link = Name × (Name × List Verdict)

abbrev pub link_in : Route → Link
link_in route = (route.from, (route.to, route.script.0.items))

-- one of these nodes, and another of them
unfoldable pub ends_of : List Name → Word → Word → Option (Name × Name)
ends_of nodes from to = do
  sender ← node_name_of from
  receiver ← node_name_of to
  if is_among nodes sender && is_peer nodes sender receiver then Some (sender, receiver) else None

-- link FROM TO VERDICT.., behind the word link
unfoldable pub link_of : List Name → List Word → Option Link
link_of nodes (from ∷ to ∷ verdict ∷ others) = do
  ends ← ends_of nodes from to
  verdicts ← verdicts_of (verdict ∷ others)
  Some (ends.0, (ends.1, verdicts))
link_of nodes _ = None
