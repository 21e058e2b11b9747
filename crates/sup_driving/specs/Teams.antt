-- A driver and its receivers: what their threads are given, and give back.
use Rattle.std.specs.Prelude.{◌≡◌, ℕ, Bool, true, List, [], map, slice_get, Some}
use Rattle.std.specs.List.{AllZip, AllByRecursion}
use Rattle.sup_specs.specs.Values.{Bytes}
use Rattle.sup_local_sup.specs.declared.effect.Effect.{Effect}
use Rattle.sup_placement.specs.declared.weigh.Weigh.{Ghosts as WeighGhosts}
use Rattle.sup_node_gate.specs.declared.entry.Entry.{Entry}
use Rattle.sup_node_gate.specs.Gates.{view_of}
use Rattle.sup_links.specs.declared.link_in.Sent.{Sent}
use Rattle.sup_links.specs.Ends.{SameOut, IsSentOf, script_of, sent_script, sent_put, taken_of, has_ended}
use Rattle.sup_plan.specs.Calls.{letters_to, deliveries}
use Rattle.sup_plan.specs.Sublists.{Sublist}
use Rattle.sup_plan.specs.declared.plan.Command.{Command}
use Rattle.sup_posts.specs.Jobs.{IsSeatAt, MayTakeDrive}
use Rattle.sup_posts.specs.declared.shared_node.SharedNode.{SharedNode}
use Rattle.sup_posts.specs.declared.jobs.Lane.{Lane}
use Rattle.sup_posts.specs.declared.jobs.Drive.{Drive}
use Rattle.sup_crew.specs.declared.team.Team.{Team}
use Rattle.sup_crew.specs.Teams.{AllOfTeam}
use Rattle.sup_posts.specs.Rounds.{MakesCalls, MakesCommands, delivery}
use Rattle.sup_driving.specs.Wires.{IsUnused}
use Rattle.sup_driving.specs.declared.teams.Steer.{Steer}
use Rattle.sup_driving.specs.declared.teams.Receive.{Receive}
use Rattle.sup_driving.specs.declared.wires.Wire.{Wire}
use Rattle.sup_driving.specs.declared.work.Steered.{Steered}
use Rattle.sup_driving.specs.declared.work.Received.{Received}

-- the link was ended, and the letters to its node of these entries were put, and nothing else
pub record HasSent (entries : List Entry) (wire : Wire) (sent : Sent) : Type 0 where
  pub link : IsSentOf sent wire.entry
  pub script : sent_script sent ≡ script_of wire.entry
  pub letters : sent_put sent ≡ letters_to wire.to entries

module _ {W : Type 0} {h : WeighGhosts W} where
  -- a driver's end of a link
  pub record IsWireOf (posts : List (SharedNode W h)) (lane : Lane W h) (wire : Wire) : Type 0 where
    pub post : SharedNode W h
    pub stands : slice_get posts lane.to ≡ Some post
    pub to : wire.to ≡ post.name
    pub entry : wire.entry ≡ lane.entry

  -- what the receiver of a link is given
  pub record IsReceiveOf (lane : Lane W h) (receive : Receive W h) : Type 0 where
    pub to : receive.to ≡ lane.to
    pub seat : receive.seat ≡ lane.seat
    pub exit : receive.exit ≡ lane.exit

  -- what a driver and its receivers are given
  pub record IsTeamOf (posts : List (SharedNode W h)) (drive : Drive W h) (team : Team (Steer W h) (Receive W h)) : Type 0 where
    pub takes : MayTakeDrive posts drive
    pub at : team.lead.at ≡ drive.at
    pub seat : team.lead.seat ≡ drive.seat
    pub commands : team.lead.commands ≡ drive.commands
    pub wires : AllZip (IsWireOf posts) drive.lanes.items team.lead.wires.items
    pub others : AllZip IsReceiveOf drive.lanes.items team.others.items

  -- the pass is of the gate of the node at this place, and nothing was put into the links
  pub record IsReadyToSteer (posts : List (SharedNode W h)) (s : Steer W h) : Type 0 where
    pub seat : IsSeatAt posts s.at s.seat
    pub unused : AllByRecursion IsUnused s.wires.items

  -- the pass is of the gate of the node at this place, and nothing was taken from the link
  pub record IsReadyToReceive (posts : List (SharedNode W h)) (r : Receive W h) : Type 0 where
    pub seat : IsSeatAt posts r.to r.seat
    pub none : taken_of r.exit ≡ []

  abbrev pub IsReady : List (SharedNode W h) → Team (Steer W h) (Receive W h) → Type 0
  IsReady posts team = AllOfTeam (IsReadyToSteer posts) (IsReadyToReceive posts) team

  -- the pass called the commands in order, each once with its moment, and nothing else but exits of children that didn't start at a command, as the
  -- runner answered; the checkpoint was told of each command and its answer; the letters of all that the pass has seen were sent, and nothing else
  pub record SteersNode (did : Bytes → Effect → Bool → Type 0) (stood : Bytes → Command → ℕ → List Effect → Type 0) (posts : List (SharedNode W h)) (steer : Steer W h) (steered : Steered W h) : Type 0 where
    pub seat : IsSeatAt posts steer.at steered.seat
    pub sent : AllZip (HasSent (view_of steered.seat).seen) steer.wires.items steered.sent.items
    pub drove : MakesCommands (did seat.0.name) (stood seat.0.name) (view_of steer.seat) steer.commands.items (view_of steered.seat)

  -- all that came out of the link was delivered, in its order; the pass made no other call but exits of children that didn't start at it, as
  -- the runner answered
  pub record ReceivesLetters (did : Bytes → Effect → Bool → Type 0) (posts : List (SharedNode W h)) (receive : Receive W h) (received : Received W h) : Type 0 where
    pub seat : IsSeatAt posts receive.to received.seat
    pub to : received.to ≡ receive.to
    pub link : SameOut receive.exit received.exit
    pub ended : has_ended received.exit ≡ true
    pub delivered : Sublist (taken_of received.exit) (deliveries (view_of received.seat).seen)
    pub made : MakesCalls (did seat.0.name) (view_of receive.seat) (map delivery (taken_of received.exit)) (view_of received.seat)
