-- Of the same histories one verdict is told.
use Rattle.std.specs.Prelude.{◌≡◌, ℕ, List, [], ◌∷◌, codes}
use Rattle.std.specs.List.{flat_map}
use Rattle.std.proofs.Common.{sym, ap, ◌∙◌, subst}
use Rattle.sup_specs.specs.Values.{Bytes}
use Rattle.sup_placement.specs.Place.{Weigher}
use Rattle.sup_jobs.specs.declared.fault.Fault.TheVariants as job
use Rattle.sup_plan.specs.declared.histories.History.{History}
use Rattle.sup_plan.specs.declared.plan.Plan.{Plan}
use Rattle.sup_world.specs.SeenNodes.{SeenNode}
use Rattle.sup_certify.specs.Complete.{HasRun}
use Rattle.sup_certify.specs.Faults.{IsDifference}
use Rattle.sup_certify.specs.declared.fault.CertifyFault.{CertifyFault}
use Rattle.sup_certify.specs.declared.fault.CertifyFault.TheVariants as judged
use Rattle.sup_text.specs.Words.{text}
use Rattle.sup_cluster_texts.specs.Texts.{cluster_text, node_text, running_at}
use Rattle.sup_cluster_texts.specs.declared.fault.ClusterFault.{ClusterFault}
use Rattle.sup_cluster_texts.specs.declared.fault.ClusterFault.TheVariants.{Job, HistoryFull, LinkClosed, Stuck, Differs}
use Rattle.sup_clustering.specs.OneVerdict.{AreAlike}
use Rattle.sup_clustering.specs.Verdicts.{IsNoRun, PrintsRun, RefusesHistories}
use Rattle.sup_clustering.proofs.JudgedHistoryLaws.{none_judged}
use Rattle.sup_clustering.proofs.OneRefusalLaws.{one_place, stuck_or_differs}
use Rattle.sup_clustering.proofs.SameRunLaws.{one_world}
use Rattle.sup_clustering.proofs.SameSettlingLaws.{settle_alike, nodes_alike}

-- nodes that know the same print the same
texts_alike : (g : Weigher) (sites others : List SeenNode) (names : List Bytes) → ((name : Bytes) → running_at sites name ≡ running_at others name) → cluster_text g sites names ≡ cluster_text g others names
texts_alike g sites others names same = λ i. text (codes "certified\n" ∷ flat_map (λ (name : Bytes). node_text g name (same name i)) names ∷ [])

module _ (g : Weigher) (plan : Plan) (hs : List History) where
  pub one_text : (said other : List ℕ) → PrintsRun g plan hs said → PrintsRun g plan hs other → other ≡ said
  one_text said other p q =
      let begun = one_world g plan.config plan.nodes.items hs p.certified.judged p.steps q.steps p.sites q.sites p.certified.makes q.certified.makes in
      let ended = settle_alike g begun.real p.sites q.sites p.after q.after p.settles.0 q.settles.0 begun.shows begun.also p.settles.1 q.settles.1 in
      q.says ∙ texts_alike g q.after p.after plan.nodes.items (nodes_alike g ended.0 q.after p.after ended.2 ended.1) ∙ sym p.says

  has_run : (said : List ℕ) → PrintsRun g plan hs said → HasRun g plan.config plan.nodes.items hs
  has_run said p = record { judged = p.certified.judged; steps = p.steps; sites = p.sites; run = p.certified.makes }

  not_both : (said : List ℕ) (fault : CertifyFault) → PrintsRun g plan hs said → IsNoRun g plan hs fault → ⊥
  not_both said fault p n = n.none (has_run said p)

  pub text_or_want : (said : List ℕ) (fault : ClusterFault) → PrintsRun g plan hs said → RefusesHistories g plan hs fault → fault ≡ Job job.OutOfMemory
  text_or_want said (Job fault) p r = ap Job r
  text_or_want said HistoryFull p r = absurd r
  text_or_want said LinkClosed p r = absurd r
  text_or_want said Stuck p r = absurd (not_both said judged.Stuck p (none_judged g plan hs judged.Stuck p.certified.judged r))
  text_or_want said (Differs node place) p r = absurd (not_both said (judged.Differs node place) p r)

  -- histories that differ aren't stuck
  apart : (node : Bytes) (place : ℕ) → RefusesHistories g plan hs Stuck → IsNoRun g plan hs (judged.Differs node place) → ⊥
  apart node place r d =
      let s = none_judged g plan hs judged.Stuck d.judged r in
      stuck_or_differs g plan.config plan.nodes.items hs d.judged s.start d.start s.is_new d.is_new node place s.ends d.ends

  same_place : (node other : Bytes) (place more : ℕ) → IsNoRun g plan hs (judged.Differs node place) → IsNoRun g plan hs (judged.Differs other more) → node ≡ other → place ≡ more
  same_place node other place more d f same =
      sym (one_place g plan.config plan.nodes.items hs d.judged d.start f.start d.is_new f.is_new node place more d.ends (subst (λ (n : Bytes). IsDifference g f.start hs n more) (sym same) f.ends))

  pub alike : (fault other : ClusterFault) → RefusesHistories g plan hs fault → RefusesHistories g plan hs other → AreAlike fault other
  alike Stuck (Differs node place) s d = apart node place s d
  alike (Differs node place) Stuck d s = apart node place s d
  alike (Differs node place) (Differs other more) d f = same_place node other place more d f
  alike fault other a b = tt
