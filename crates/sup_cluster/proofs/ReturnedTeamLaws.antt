-- What the drivers hand back, said of their nodes.
use Rattle.std.specs.Prelude.{◌≡◌, ℕ, Bool, List, All, Result, Ok, Err, slice_get, refl}
use Rattle.std.specs.List.{AllZip}
use Rattle.std.proofs.Common.{ap, ◌∙◌, subst}
use Rattle.sup_specs.specs.Values.{Bytes}
use Rattle.sup_local_sup.specs.declared.effect.Effect.{Effect}
use Rattle.sup_placement.specs.declared.weigh.Weigh.{Ghosts as WeighGhosts}
use Rattle.sup_plan.specs.declared.plan.Command.{Command}
use Rattle.sup_plan.specs.declared.plan.Plan.{Plan}
use Rattle.sup_node_gate.specs.Gates.{view_of}
use Rattle.sup_posts.specs.Jobs.{CarriedLetters, GivesDriven, DrivesNode, IsSeatOf}
use Rattle.sup_posts.specs.declared.thread_fault.ThreadFault.{ThreadFault}
use Rattle.sup_posts.specs.declared.shared_node.SharedNode.{SharedNode}
use Rattle.sup_posts.specs.declared.jobs.Drive.{Drive}
use Rattle.sup_posts.specs.declared.jobs.Driven.{Driven}
use Rattle.sup_posts.specs.Drives.{IsDriveOf, IsSharedNodeOf}
use Rattle.sup_run_ends.specs.Steps.{IsArrived, ReturnsDriven}
use Rattle.sup_run_ends.proofs.ZipLaws.{zip_right, zip_through}
use Rattle.sup_run_ends.proofs.RunEndItemLaws.{all_at, same_place}

module _ {W : Type 0} {h : WeighGhosts W} where
  module _ (did : Bytes → Effect → Bool → Type 0) (stood : Bytes → Command → ℕ → List Effect → Type 0) where
    arrives : (posts : List (SharedNode W h)) (drive : Drive W h) (driven : Driven W h) (d : DrivesNode did stood posts drive driven) → All (IsArrived posts) driven.arrived.items
    arrives posts drive driven d = all_at (IsArrived posts) driven.arrived.items (λ i a e.
        let c = zip_right (CarriedLetters did posts (view_of driven.seat).seen) drive.lanes.items driven.arrived.items i a d.carried e in
        (c.2.post, ap (slice_get posts) c.2.to ∙ c.2.stands, c.2.seat))

    one_returned : (plan : Plan) (posts : List (SharedNode W h)) (post : SharedNode W h) (drive : Drive W h) (result : Result (Driven W h) ThreadFault)
        → IsDriveOf plan posts post drive → GivesDriven did stood posts drive result → ReturnsDriven posts post result
    one_returned plan posts post drive (Ok driven) d g = (
      subst (λ (p : SharedNode W h). IsSeatOf p driven.seat) (same_place posts drive.at drive.at g.seat.0 post g.seat.1 d.place refl) g.seat.2,
      arrives posts drive driven g,
    )
    one_returned plan posts post drive (Err fault) d g = tt

    pub returned : (plan : Plan) (posts : List (SharedNode W h)) (drives : List (Drive W h)) (results : List (Result (Driven W h) ThreadFault))
        → AllZip (IsDriveOf plan posts) posts drives → AllZip (GivesDriven did stood posts) drives results → AllZip (ReturnsDriven posts) posts results
    returned plan posts drives results d g = zip_through (IsDriveOf plan posts) (GivesDriven did stood posts) (ReturnsDriven posts) (one_returned plan posts) posts drives results d g

  -- drives of a plan, over nodes, are those of the same plan over the same nodes
  pub same_drives : (plan plan' : Plan) (posts posts' : List (SharedNode W h)) (drives : List (Drive W h)) → plan ≡ plan' → posts ≡ posts'
      → AllZip (IsDriveOf plan posts) posts drives → AllZip (IsDriveOf plan' posts') posts' drives
  same_drives plan plan' posts posts' drives same e ds = subst (λ (x : Plan × List (SharedNode W h)). AllZip (IsDriveOf x.0 x.1) x.1 drives) (λ i. (same i, e i)) ds

  -- nodes of a plan, each with room for so many entries, are those of the same plan, with the same room
  pub same_nodes : (plan plan' : Plan) (most most' : ℕ) (names : List Bytes) (posts posts' : List (SharedNode W h)) → plan ≡ plan' → most ≡ most' → names ≡ plan.nodes.items → posts ≡ posts'
      → AllZip (IsSharedNodeOf plan.config most) names posts → AllZip (IsSharedNodeOf plan'.config most') plan'.nodes.items posts'
  same_nodes plan plan' most most' names posts posts' same room named e ps =
      subst (λ (x : Plan × ℕ × List (SharedNode W h)). AllZip (IsSharedNodeOf x.0.config x.1) x.0.nodes.items x.2) (λ i. (same i, room i, e i))
      (subst (λ l. AllZip (IsSharedNodeOf plan.config most) l posts) named ps)
