-- The verdict over histories of a plan's nodes, whoever made them: what is printed of the run that they make, or why they make none.
use Rattle.std.specs.Prelude.{◌≡◌, ◌⊎◌, ℕ, Bool, List, Ok}
use Rattle.sup_specs.specs.Values.{Bytes}
use Rattle.sup_placement.specs.Place.{Weigher}
use Rattle.sup_jobs.specs.declared.fault.Fault.TheVariants as job
use Rattle.sup_plan.specs.declared.histories.History.{History}
use Rattle.sup_plan.specs.declared.plan.Plan.{Plan}
use Rattle.sup_model.specs.declared.step.Step.{Step}
use Rattle.sup_model.specs.Worlds.{ModelWorld}
use Rattle.sup_world.specs.declared.settled.Settled.{Settled}
use Rattle.sup_world.specs.FollowedSteps.{StandsFor}
use Rattle.sup_world.specs.SeenNodes.{SeenNode}
use Rattle.sup_world.specs.Settlements.{SettlesBy}
use Rattle.sup_world.specs.SettledSites.{SettlesTo}
use Rattle.sup_certify.specs.Certified.{MakeRun, IsNewWorld}
use Rattle.sup_certify.specs.Complete.{HasRun}
use Rattle.sup_certify.specs.Faults.{CanJudge, IsFaultFrom}
use Rattle.sup_certify.specs.Follows.{HasHeadline, KnowsAll}
use Rattle.sup_certify.specs.declared.fault.CertifyFault.{CertifyFault}
use Rattle.sup_certify.specs.declared.fault.CertifyFault.TheVariants as judged
use Rattle.sup_cluster_texts.specs.Texts.{cluster_text}
use Rattle.sup_cluster_texts.specs.declared.fault.ClusterFault.{ClusterFault}
use Rattle.sup_cluster_texts.specs.declared.fault.ClusterFault.TheVariants.{Job, HistoryFull, LinkClosed, Stuck, Differs}

-- the histories make a run of these steps, from a new world of the plan's nodes to this one, and the headline holds of it
pub record IsCertified (weigher : Weigher) (plan : Plan) (histories : List History) (steps : List Step) (sites : List SeenNode) : Type 0 where
  pub judged : CanJudge plan.nodes.items histories
  pub makes : MakeRun weigher plan.config plan.nodes.items histories steps sites
  pub headline : (is_message : Bytes → Bool) → KnowsAll is_message steps → HasHeadline weigher plan.config plan.nodes.items is_message histories steps sites

-- the nodes settle by steps of their world, and as the model's do
abbrev pub SettlesFrom : Weigher → List SeenNode → List SeenNode → Type 0
SettlesFrom weigher sites after =
    (settled : Settled) × SettlesBy weigher sites (Ok settled) after × ((model : ModelWorld) → StandsFor weigher sites model → SettlesTo weigher model (Ok settled) after)

-- the histories are certified, the nodes of the world that they lead to settle, and this is what is printed of them
pub record PrintsRun (weigher : Weigher) (plan : Plan) (histories : List History) (said : List ℕ) : Type 0 where
  pub steps : List Step
  pub sites : List SeenNode
  pub certified : IsCertified weigher plan histories steps sites
  pub after : List SeenNode
  pub settles : SettlesFrom weigher sites after
  pub says : said ≡ cluster_text weigher after plan.nodes.items

-- the histories make no run: in a new world of the plan's nodes a run of the first entries of each history ends by this fault, and no order of all entries that
-- keeps each history's own is a run
pub record IsNoRun (weigher : Weigher) (plan : Plan) (histories : List History) (fault : CertifyFault) : Type 0 where
  pub judged : CanJudge plan.nodes.items histories
  pub start : List SeenNode
  pub is_new : IsNewWorld weigher plan.config plan.nodes.items start
  pub ends : IsFaultFrom weigher start histories fault
  pub none : ¬ HasRun weigher plan.config plan.nodes.items histories

-- why nothing is printed of the histories: stuck where they can't be judged, too; out of memory where settling is refused, too; and by no fault of threads
abbrev pub RefusesHistories : Weigher → Plan → List History → ClusterFault → Type 0
RefusesHistories weigher plan histories (Job fault) = fault ≡ job.OutOfMemory
RefusesHistories weigher plan histories HistoryFull = ⊥
RefusesHistories weigher plan histories LinkClosed = ⊥
RefusesHistories weigher plan histories Stuck = (¬ CanJudge plan.nodes.items histories) ⊎ IsNoRun weigher plan histories judged.Stuck
RefusesHistories weigher plan histories (Differs node place) = IsNoRun weigher plan histories (judged.Differs node place)
