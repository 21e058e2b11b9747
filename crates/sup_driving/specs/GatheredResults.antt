-- What drivers hand back, of what the threads did.
use Rattle.std.specs.Prelude.{◌≡◌, ◌⊎◌, true, List, [], ◌∷◌, All, Contains, Result, Ok, Err, IsOk}
use Rattle.std.specs.List.{AllZip}
use Rattle.sup_placement.specs.declared.weigh.Weigh.{Ghosts as WeighGhosts}
use Rattle.sup_links.specs.declared.link_in.Sent.{Sent}
use Rattle.sup_links.specs.Ends.{IsSentTo, sent_script, sent_put, taken_of, has_ended}
use Rattle.sup_links.specs.Image.{image}
use Rattle.sup_posts.specs.Faults.{IsBelow}
use Rattle.sup_posts.specs.declared.thread_fault.ThreadFault.{ThreadFault}
use Rattle.sup_posts.specs.declared.thread_fault.ThreadFault.TheVariants.{OutOfMemory}
use Rattle.sup_posts.specs.declared.jobs.Arrived.{Arrived}
use Rattle.sup_posts.specs.declared.jobs.Driven.{Driven}
use Rattle.sup_crew.specs.declared.team.Team.{Team}
use Rattle.sup_driving.specs.declared.work.Steered.{Steered}
use Rattle.sup_driving.specs.declared.work.Received.{Received}

-- what a driver's thread gives
abbrev pub Steering : (W : Type 0) → WeighGhosts W → Type 0
Steering W h = Result (Steered W h) ThreadFault

-- what a receiver's thread gives
abbrev pub Reception : (W : Type 0) → WeighGhosts W → Type 0
Reception W h = Result (Received W h) ThreadFault

module _ {W : Type 0} {h : WeighGhosts W} where
  -- the ends are of one link, whose end mark was taken
  abbrev pub CanMeet : Sent → Reception W h → Type 0
  CanMeet sent (Ok received) = IsSentTo sent received.exit × (has_ended received.exit ≡ true)
  CanMeet sent (Err fault) = Unit {0}

  -- what was taken is what the link made of what was put
  abbrev pub MetEnds : Sent → Reception W h → Arrived W h → Type 0
  MetEnds sent (Ok received) arrived = (arrived.to ≡ received.to) × (arrived.seat ≡ received.seat) × (taken_of received.exit ≡ image (sent_script sent) (sent_put sent))
  MetEnds sent (Err fault) arrived = ⊥

  abbrev pub AllMet : List Sent → List (Reception W h) → List (Arrived W h) → Type 0
  AllMet [] [] [] = Unit {0}
  AllMet (s ∷ ss) (r ∷ rs) (a ∷ more) = MetEnds s r a × AllMet ss rs more
  AllMet _ _ _ = ⊥

  abbrev pub CanMeetAll : Steering W h → List (Reception W h) → Type 0
  CanMeetAll (Ok steered) others = AllZip CanMeet steered.sent.items others
  CanMeetAll (Err fault) others = Unit {0}

  -- the links of the driver can meet the other ends
  abbrev pub CanGather : Team (Steering W h) (Reception W h) → Type 0
  CanGather done = CanMeetAll done.lead done.others.items

  -- what a driver hands back, of what it and its receivers did
  pub record IsGathered (done : Team (Steering W h) (Reception W h)) (driven : Driven W h) : Type 0 where
    pub steered : Steered W h
    pub lead : done.lead ≡ Ok steered
    pub seat : driven.seat ≡ steered.seat
    pub met : AllMet steered.sent.items done.others.items driven.arrived.items

  -- a fault of the driver or of one of its receivers, of which none is graver
  pub record IsGravestOfTeam (done : Team (Steering W h) (Reception W h)) (fault : ThreadFault) : Type 0 where
    pub stands : (done.lead ≡ Err fault) ⊎ Contains done.others.items (Err fault)
    pub lead : IsBelow fault done.lead
    pub others : All (IsBelow fault) done.others.items

  -- why a driver hands back nothing: such a fault, or, where there is none, want of memory
  abbrev pub IsFaultOfTeam : Team (Steering W h) (Reception W h) → ThreadFault → Type 0
  IsFaultOfTeam done fault = IsGravestOfTeam done fault ⊎ (IsOk done.lead × All IsOk done.others.items × (fault ≡ OutOfMemory))

  abbrev pub GathersTeam : Team (Steering W h) (Reception W h) → Result (Driven W h) ThreadFault → Type 0
  GathersTeam done (Ok driven) = IsGathered done driven
  GathersTeam done (Err fault) = IsFaultOfTeam done fault
