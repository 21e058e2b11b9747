use Rattle.std.proofs.Common.{ap, map, ◌∙◌}
use Rattle.std.proofs.lemmas.Result.{IfOk-weaker}
use Rattle.std.proofs.lemmas.Iterator.{items_from_drains}
use Rattle.std.proofs.lemmas.Iterator.Splits.{YieldsList-from_lines}
use Rattle.sup_rows.proofs.case.words_of.Goals as goal

pub returns : goal.returns
returns c = IfOk-weaker c.collect.result _ _
    (λ words ran. ap (map (λ w. w.now)) ran.2.0 ∙ items_from_drains ran.0 ran.1 (YieldsList-from_lines c.args.text.now c.lines.ensures.rest))
    c.collect.ensures.ran
