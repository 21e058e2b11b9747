use Rattle.std.proofs.Common.{cond, sym, ap, ◌∙◌}
use Rattle.sup_causal.specs.Dots.{dot_eq}
use Rattle.sup_dot_store.specs.ByDot.{at_dot}
use Rattle.sup_dot_store.proofs.ShortLaws.{none_taken}
use Rattle.sup_dot_store.proofs.dot_by_dot.put_merged.Goals as goal

pub returns-in_default : goal.returns-in_default
returns-in_default g c q =
    let old = c.args.out.now in
    none_taken old.entries c.args.dot.now c.requires q ∙ ap (λ o. cond (dot_eq c.args.dot.now q) o (at_dot old q)) (sym c.in_default.is)
