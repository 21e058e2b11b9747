-- The names of the running nodes: the model's, and all different.
use Rattle.std.specs.Prelude.{◌≡◌, Bool, true, false, cond, List, [], ◌∷◌, map, filter, is_some, find, Option, Some, None, IsPermutation, refl}
use Rattle.std.specs.List.{AllZip, AllByRecursion, IsDistinct}
use Rattle.std.specs.Option.{option_map}
use Rattle.std.specs.Cmp.Lexicographic.{nat_list_eq_equiv}
use Rattle.std.proofs.Common.{sym, ap, ◌∙◌, subst}
use Rattle.std.proofs.lemmas.Map.Keys.{IsDistinct-IsPermutation, IsDistinct-cons, IsDistinct-head, IsDistinct-tail}
use Rattle.std.proofs.lemmas.Map.Text.{is_eq-slice_cmp}
use Rattle.std.proofs.lemmas.List.Elements.{All-from_recursion, recursion_from_All}
use Rattle.std.proofs.lemmas.List.Sorted.{All-permutation}
use mathlib.Core.Logic.{inl, inr}
use Rattle.sup_specs.specs.Values.{Bytes}
use Rattle.sup_tables.specs.States.{State}
use Rattle.sup_tables.proofs.PointLaws.{text_itself}
use Rattle.sup_placement.specs.Place.{Weigher}
use Rattle.sup_anti_entropy.specs.Peers.{OccursIn}
use Rattle.sup_replica.specs.Nodes.{is_named}
use Rattle.sup_replica.specs.Stations.{Station}
use Rattle.sup_model.specs.Worlds.{Ops, ModelWorld, ModelSite}
use Rattle.sup_model.specs.Stands.{NodeStands}
use Rattle.sup_model.specs.TableViews.{table_view}
use Rattle.sup_model.specs.Refines.{NodePair}
use Rattle.sup_model.specs.Follows.{NameIsApart, NamesAllDiffer}
use Rattle.sup_model.specs.Settles.{known_at}
use Rattle.sup_model.proofs.FollowLaws.{worlds_stand}
use Rattle.sup_world.specs.SeenNodes.{SeenNode}
use Rattle.sup_world.specs.StandingStations.{IsNodeOf}
use Rattle.sup_world.specs.ToldAnswers.{SiteStands}
use Rattle.sup_world.specs.FollowedSteps.{StandsFor}
use Rattle.sup_world.specs.Exchanges.{running}

-- a node runs where the model's does
up_alike : (o : Option (Station State)) (p : Station State) (site : ModelSite) → IsNodeOf p o → NodeStands table_view p.node site.node → is_some o ≡ site.node.up
up_alike None p site h n = sym h.down ∙ n.up
up_alike (Some q) p site h n = sym h.1 ∙ n.up

abbrev pub up_names : List ModelSite → List Bytes
up_names sites = map (λ s. s.node.name) (filter (λ s. s.node.up) sites)

cons_is : (x y : Bytes) (xs ys : List Bytes) → x ≡ y → xs ≡ ys → (x ∷ xs) ≡ (y ∷ ys)
cons_is x y xs ys e f = λ i. e i ∷ f i

are_up : (sites : List SeenNode) (pairs : List (NodePair State)) → AllZip SiteStands sites (map (λ p. p.post) pairs) → ((p : NodePair State) → OccursIn pairs p → NodeStands table_view p.post.station.node p.site.node)
    → running sites ≡ up_names (map (λ p. p.site) pairs)
are_up [] [] h n = refl
are_up [] (p ∷ ps) h n = absurd h
are_up (s ∷ ss) [] h n = absurd h
are_up (s ∷ ss) (p ∷ ps) h n =
    let here : NodeStands table_view p.post.station.node p.site.node = n p (inl refl) in
    let rest : running ss ≡ up_names (map (λ (q : NodePair State). q.site) ps) = are_up ss ps h.1 (λ q i. n q (inr i)) in
    let name : s.name ≡ p.site.node.name = h.0.name ∙ here.name in
    let F = filter (λ (x : SeenNode). is_some x.kept_station.node) ss in
    let G = filter (λ (x : ModelSite). x.node.up) (map (λ (q : NodePair State). q.site) ps) in
    let left = λ (b : Bool). map (λ (x : SeenNode). x.name) (cond b (s ∷ F) F) in
    let right = λ (b : Bool). map (λ (x : ModelSite). x.node.name) (cond b (p.site ∷ G) G) in
    let same : (b : Bool) → left b ≡ right b = λ b. elim b as (λ b. left b ≡ right b) [ true ↦ cons_is s.name p.site.node.name _ _ name rest | false ↦ rest ] in
    same (is_some s.kept_station.node) ∙ ap right (up_alike s.kept_station.node p.post.station p.site h.0.station.node here)

pub running_up : (g : Weigher) (sites : List SeenNode) (model : ModelWorld) → StandsFor g sites model → running sites ≡ up_names model.sites
running_up g sites model h =
    let w = worlds_stand h.real model h.stands in
    are_up sites w.pairs (subst (λ ps. AllZip SiteStands sites ps) (sym w.posts) h.shows.sites_stand) w.nodes ∙ ap up_names w.sites

-- names that differ, in whichever order they stand
turned : (x y : Bytes) → is_named x y ≡ is_named y x
turned x y = is_eq-slice_cmp x y ∙ nat_list_eq_equiv.symm x y ∙ sym (is_eq-slice_cmp y x)

all_apart : (name : Bytes) (names : List Bytes) → NameIsApart name names → AllByRecursion (λ y. is_named name y ≡ false) names
all_apart name [] a = tt
all_apart name (n ∷ ns) a = (a.0, all_apart name ns a.2)

apart_all : (name : Bytes) (names : List Bytes) → AllByRecursion (λ y. is_named name y ≡ false) names → NameIsApart name names
apart_all name [] a = tt
apart_all name (n ∷ ns) a = (a.0, turned n name ∙ a.0, apart_all name ns a.1)

to_distinct : (names : List Bytes) → NamesAllDiffer names → IsDistinct is_named names
unfolding IsDistinct
to_distinct [] d = tt
to_distinct (n ∷ ns) d = IsDistinct-cons is_named n ns (all_apart n ns d.0) (to_distinct ns d.1)

from_distinct : (names : List Bytes) → IsDistinct is_named names → NamesAllDiffer names
from_distinct [] d = tt
from_distinct (n ∷ ns) d = (apart_all n ns (IsDistinct-head is_named n ns d), from_distinct ns (IsDistinct-tail is_named n ns d))

-- some of names that differ
apart_running : (name : Bytes) (sites : List SeenNode) → NameIsApart name (map (λ s. s.name) sites) → NameIsApart name (running sites)
apart_running name [] a = tt
apart_running name (s ∷ ss) a =
    let F = filter (λ (x : SeenNode). is_some x.kept_station.node) ss in
    elim (is_some s.kept_station.node) as (λ b. NameIsApart name (map (λ (x : SeenNode). x.name) (cond b (s ∷ F) F))) [ true ↦ (a.0, a.1, apart_running name ss a.2) | false ↦ apart_running name ss a.2 ]

distinct_running : (sites : List SeenNode) → NamesAllDiffer (map (λ s. s.name) sites) → NamesAllDiffer (running sites)
distinct_running [] d = tt
distinct_running (s ∷ ss) d =
    let F = filter (λ (x : SeenNode). is_some x.kept_station.node) ss in
    elim (is_some s.kept_station.node) as (λ b. NamesAllDiffer (map (λ (x : SeenNode). x.name) (cond b (s ∷ F) F))) [ true ↦ (apart_running s.name ss d.0, distinct_running ss d.1) | false ↦ distinct_running ss d.1 ]

pub names_differ : (g : Weigher) (sites : List SeenNode) (model : ModelWorld) (names : List Bytes) → StandsFor g sites model → IsPermutation (running sites) names → NamesAllDiffer names
names_differ g sites model names h p = from_distinct names (IsDistinct-IsPermutation is_named turned (running sites) names p (to_distinct (running sites) (distinct_running sites h.shows.apart)))

-- each of them is found in the model
abbrev Found : List ModelSite → Bytes → Type 0
Found sites name = (s : ModelSite) × (find (λ (x : ModelSite). is_named name x.node.name) sites ≡ Some s)

found_more : (x : ModelSite) (xs : List ModelSite) (name : Bytes) → Found xs name → Found (x ∷ xs) name
found_more x xs name h =
    elim (is_named name x.node.name) as (λ b. (s : ModelSite) × (cond b (Some x) (find (λ (y : ModelSite). is_named name y.node.name) xs) ≡ Some s)) [ true ↦ (x, refl) | false ↦ h ]

all_more : (x : ModelSite) (xs : List ModelSite) (names : List Bytes) → AllByRecursion (Found xs) names → AllByRecursion (Found (x ∷ xs)) names
all_more x xs [] h = tt
all_more x xs (n ∷ ns) h = (found_more x xs n h.0, all_more x xs ns h.1)

found_up : (sites : List ModelSite) → AllByRecursion (Found sites) (up_names sites)
found_up [] = tt
found_up (x ∷ xs) =
    let G = filter (λ (y : ModelSite). y.node.up) xs in
    let here : Found (x ∷ xs) x.node.name = (x, ap (λ b. cond b (Some x) (find (λ (y : ModelSite). is_named x.node.name y.node.name) xs)) (text_itself x.node.name)) in
    let rest = all_more x xs (up_names xs) (found_up xs) in
    elim x.node.up as (λ b. AllByRecursion (Found (x ∷ xs)) (map (λ (y : ModelSite). y.node.name) (cond b (x ∷ G) G))) [ true ↦ (here, rest) | false ↦ rest ]

pub first_known : (w : ModelWorld) (first : Bytes) (others : List Bytes) → IsPermutation (up_names w.sites) (first ∷ others) → (x : Ops) × (known_at w first ≡ Some x)
first_known w first others p =
    let all = recursion_from_All (Found w.sites) (first ∷ others) (All-permutation (Found w.sites) (up_names w.sites) (first ∷ others) p (All-from_recursion (Found w.sites) (up_names w.sites) (found_up w.sites))) in
    let here : Found w.sites first = all.0 in
    (here.0.node.known, ap (option_map (λ (s : ModelSite). s.node.known)) here.1)
