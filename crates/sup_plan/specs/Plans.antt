-- Plans that can be run (the limits of a plan).
use Rattle.std.specs.Prelude.{◌≤◌, Bool, true, false, ◌&&◌, not, List, length}
use Rattle.std.specs.List.{AllPass, IsDistinct, list_any}
use Rattle.std.specs.Str.{bytes_eq}
use Rattle.sup_specs.specs.Values.{Bytes}
use Rattle.sup_replica.specs.declared.event.Act.{Act}
use Rattle.sup_replica.specs.declared.event.Act.TheVariants.{Event as Of, Stop, Restart}
use Rattle.sup_replica.specs.declared.event.Event.TheVariants.{Ship, Push, Deliver}
use Rattle.sup_plan.specs.declared.plan.Command.{Command}
use Rattle.sup_plan.specs.declared.plan.Plan.{Plan}
use Rattle.sup_plan.specs.declared.plan.Route.{Route}

-- the node is one of these
abbrev pub is_among : List Bytes → Bytes → Bool
is_among nodes name = list_any (λ n. bytes_eq n name) nodes

-- the node is one of these, and not the one that speaks to it
abbrev pub is_peer : List Bytes → Bytes → Bytes → Bool
is_peer nodes node to = is_among nodes to && not (bytes_eq node to)

-- a node may be told this: no message comes by a command
abbrev pub may_do : List Bytes → Bytes → Act → Bool
may_do nodes node (Of (Ship to)) = is_peer nodes node to
may_do nodes node (Of (Push to)) = is_peer nodes node to
may_do nodes node (Of (Deliver bytes)) = false
may_do nodes node (Of event) = true
may_do nodes node Stop = true
may_do nodes node Restart = true

abbrev pub may_tell : List Bytes → Command → Bool
may_tell nodes c = is_among nodes c.node && may_do nodes c.node c.act

-- the script is one of a link between two of these
abbrev pub has_ends : List Bytes → Route → Bool
has_ends nodes r = is_among nodes r.from && is_peer nodes r.from r.to

-- the scripts are of one link
abbrev pub is_same_link : Route → Route → Bool
is_same_link r s = bytes_eq r.from s.from && bytes_eq r.to s.to

pub record IsPlan (p : Plan) : Type 0 where
  pub few : (2 ≤ length p.nodes.items) × (length p.nodes.items ≤ 5)
  pub distinct : IsDistinct bytes_eq p.nodes.items
  pub told : AllPass (may_tell p.nodes.items) p.commands.items
  pub linked : AllPass (has_ends p.nodes.items) p.scripts.items
  pub single : IsDistinct is_same_link p.scripts.items
