use Rattle.std.proofs.Common.{rules, tests, ◌∙◌}
use Rattle.std.proofs.lemmas.Iterator.{YieldsList-from_slice}
use Rattle.std.proofs.lemmas.Iterator.Search.{any_from_yields_List}
use Rattle.sup_plan.specs.Plans.{is_same_link}
use Rattle.sup_cluster_lines.proofs.LinkSearchLaws.{any_link}
use Rattle.sup_cluster_lines.proofs.script.is_linked.Goals as goal

pub returns : goal.returns
returns c = any_from_yields_List (is_same_link c.args.route.now) _ _ c.any.result c.any.ensures.ran (YieldsList-from_slice c.args.links.now cc) (λ x b q k. search (rules, tests)) ∙ any_link c.args.route.now c.args.links.now
