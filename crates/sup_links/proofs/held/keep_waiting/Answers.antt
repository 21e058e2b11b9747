use Rattle.std.proofs.Common.{ap, ◌∙◌, rules, not}
use Rattle.std.specs.Prelude.{◌==◌}
use Rattle.std.proofs.lemmas.Fn.{filter_same}
use Rattle.sup_links.specs.Waiting.{waiting}
use Rattle.sup_links.proofs.LoopLaws.{kept_filter}
use Rattle.sup_links.proofs.held.keep_waiting.Goals as goal

pub returns : goal.returns
returns c =
    let before = c.args.held.now.items in
    ap waiting (filter_same _ (λ h. not (h.left == 0)) _ (λ x b f k. search rules) before _ c.retain.ensures.filtered) ∙ kept_filter before
