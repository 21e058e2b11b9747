-- A search among links, as they are and as they are seen; and what a loop has read, in front of what it still reads.
use Rattle.std.proofs.Common.{◌≡◌, List, [], ◌∷◌, ◌++◌, map, refl, ap, Option, Some, None}
use Rattle.std.specs.Prelude.{◌||◌}
use Rattle.std.specs.List.{list_any}
use Rattle.sup_links.specs.declared.script.Verdict.{Verdict}
use Rattle.sup_plan.specs.declared.plan.Route.{Route}
use Rattle.sup_plan.specs.Plans.{is_same_link}
use Rattle.sup_cluster_lines.specs.Links.{link_in}
use Rattle.sup_cluster_lines.specs.Script.{is_same_pair}

pub any_link : (route : Route) (links : List Route) → list_any (is_same_link route) links ≡ list_any (is_same_pair (link_in route)) (map link_in links)
any_link route [] = refl
any_link route (l ∷ links) = ap (λ b. is_same_link route l || b) (any_link route links)

abbrev pub after_verdicts : List Verdict → Option (List Verdict) → Option (List Verdict)
after_verdicts front None = None
after_verdicts front (Some verdicts) = Some (front ++ verdicts)
