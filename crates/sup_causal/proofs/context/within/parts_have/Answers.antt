use Rattle.std.proofs.Common.{◌≡◌, ◌||◌, ◌&&◌, false, leb, ap, sym, ◌∙◌}
use Rattle.sup_specs.specs.Rising.{among}
use Rattle.sup_causal.specs.Dots.{dot_cmp}
use Rattle.sup_causal.specs.Cut.{entry}
use Rattle.sup_causal.specs.Parts.{in_vector}
use Rattle.sup_causal.proofs.Cuts.{and-false}
use Rattle.sup_causal.proofs.context.within.parts_have.Goals as goal
use Rattle.sup_causal.proofs.context.within.parts_have.Goals.{then-dot-ge1, else-dot-ge1}

pub returns-else-dot-entry : goal.returns-else-dot-entry
returns-else-dot-entry c =
    let x = c.args.dot.now in
    let cloud = c.args.cloud.now in
    let none : in_vector c.args.vector.now x ≡ false = elim c.if-dot-ge1.branch [
      | then-dot-ge1 w ↦ ap (λ n. leb 1 x.counter && leb x.counter n) (sym c.entry_in-entry.ensures) ∙ ap (λ b. leb 1 x.counter && b) (sym w.value-is ∙ c.if-dot-entry.false) ∙ and-false (leb 1 x.counter)
      | else-dot-ge1 w ↦ ap (λ b. b && leb x.counter (entry c.args.vector.now x.node)) (sym w.value-is ∙ c.if-dot-entry.false)
    ] in
    c.is_in.ensures ∙ ap (λ b. b || among dot_cmp cloud x) (sym none)
