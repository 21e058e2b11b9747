-- The station of a name shows the model's node of that name.
use Rattle.std.specs.Prelude.{◌≡◌, true, false, cond, List, [], ◌∷◌, map, find, Option, Some, None, refl}
use Rattle.std.specs.List.{AllZip}
use Rattle.std.specs.Option.{option_map}
use Rattle.std.proofs.Common.{sym, ap, ◌∙◌, subst}
use mathlib.Core.Logic.{inl, inr}
use Rattle.sup_specs.specs.Values.{Bytes}
use Rattle.sup_tables.specs.States.{State}
use Rattle.sup_placement.specs.Place.{Weigher}
use Rattle.sup_anti_entropy.specs.Peers.{OccursIn}
use Rattle.sup_replica.specs.Nodes.{is_named}
use Rattle.sup_replica.specs.Stations.{Station}
use Rattle.sup_model.specs.Worlds.{ModelWorld, ModelSite, site_of}
use Rattle.sup_model.specs.Stands.{NodeStands, BothOrNone}
use Rattle.sup_model.specs.TableViews.{table_view}
use Rattle.sup_model.specs.Refines.{NodePair}
use Rattle.sup_model.proofs.FollowLaws.{worlds_stand}
use Rattle.sup_world.specs.SeenNodes.{SeenNode}
use Rattle.sup_world.specs.CarriedSteps.{seen_at}
use Rattle.sup_world.specs.StandingStations.{IsNodeOf}
use Rattle.sup_world.specs.ToldAnswers.{SiteStands}
use Rattle.sup_world.specs.FollowedSteps.{StandsFor}
use Rattle.sup_world.specs.ShownStations.{ShowsNode, ShowsNodeOf, IsShownAs}

node_shown : (o : Option (Station State)) (p : Station State) (site : ModelSite) → IsNodeOf p o → NodeStands table_view p.node site.node → ShowsNodeOf o site
node_shown None p site h n = sym n.up ∙ h.down
node_shown (Some q) p site h n =
    let s : ShowsNode p site = record { up = sym n.up ∙ h.1; boot = n.supervisor.boot; kept = n.supervisor.kept; rows = n.state.stands.rows } in
    subst (λ (r : Station State). ShowsNode r site) (sym h.0) s

abbrev site_in : List ModelSite → Bytes → Option ModelSite
site_in sites name = find (λ s. is_named name s.node.name) sites

all_shown : (sites : List SeenNode) (pairs : List (NodePair State)) (name : Bytes) → AllZip SiteStands sites (map (λ p. p.post) pairs)
    → ((p : NodePair State) → OccursIn pairs p → NodeStands table_view p.post.station.node p.site.node)
    → BothOrNone IsShownAs (option_map (λ s. s.kept_station) (seen_at sites name)) (site_in (map (λ p. p.site) pairs) name)
all_shown [] [] name h n = tt
all_shown [] (p ∷ ps) name h n = absurd h
all_shown (s ∷ ss) [] name h n = absurd h
all_shown (s ∷ ss) (p ∷ ps) name h n =
    let here : NodeStands table_view p.post.station.node p.site.node = n p (inl refl) in
    let same : is_named name s.name ≡ is_named name p.site.node.name = ap (is_named name) (h.0.name ∙ here.name) in
    subst (λ c. BothOrNone IsShownAs (option_map (λ (x : SeenNode). x.kept_station) (cond (is_named name s.name) (Some s) (seen_at ss name))) (cond c (Some p.site) (site_in (map (λ q. q.site) ps) name))) same
    (elim (is_named name s.name) as (λ b. BothOrNone IsShownAs (option_map (λ (x : SeenNode). x.kept_station) (cond b (Some s) (seen_at ss name))) (cond b (Some p.site) (site_in (map (λ q. q.site) ps) name))) [
      | true ↦ node_shown s.kept_station.node p.post.station p.site h.0.station.node here
      | false ↦ all_shown ss ps name h.1 (λ q i. n q (inr i))
    ])

pub station_shown : (g : Weigher) (sites : List SeenNode) (model : ModelWorld) (name : Bytes) → StandsFor g sites model → BothOrNone IsShownAs (option_map (λ s. s.kept_station) (seen_at sites name)) (site_of model name)
station_shown g sites model name h =
    let w = worlds_stand h.real model h.stands in
    subst (λ ss. BothOrNone IsShownAs (option_map (λ (s : SeenNode). s.kept_station) (seen_at sites name)) (site_in ss name)) w.sites
    (all_shown sites w.pairs name (subst (λ ps. AllZip SiteStands sites ps) (sym w.posts) h.shows.sites_stand) w.nodes)
