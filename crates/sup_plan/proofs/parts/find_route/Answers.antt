use Rattle.std.proofs.Common.{rules, tests}
use Rattle.std.proofs.lemmas.Iterator.{YieldsList-from_slice}
use Rattle.std.proofs.lemmas.Iterator.Search.{find_from_yields_List}
use Rattle.sup_plan.specs.Parts.{is_between}
use Rattle.sup_plan.proofs.parts.find_route.Goals as goal

pub returns : goal.returns
returns c = find_from_yields_List (is_between c.args.from.now c.args.to.now) _ _ c.find.result c.find.ensures.ran (YieldsList-from_slice c.args.scripts.now cc) (λ x b q k. search (rules, tests))
