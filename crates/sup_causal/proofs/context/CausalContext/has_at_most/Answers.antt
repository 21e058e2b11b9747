use Rattle.std.proofs.Common.{◌≡◌, ◌+◌, length, sym, ap, ◌∙◌, arith}
use Rattle.sup_causal.specs.Parts.{total_of}
use Rattle.sup_causal.proofs.Counts.{length_dots}
use Rattle.sup_causal.proofs.context.CausalContext.has_at_most.Goals as goal

pub returns : goal.returns
returns c =
    let v = c.self.inside.vector.items in
    let cloud = c.self.inside.cloud.items in
    let is : length c.args.self.now ≡ total_of v + length cloud = ap length (sym c.self.view_is) ∙ length_dots v cloud c.self.invariant in
    let runs : total_of c.deref.result.now ≡ total_of v = ap total_of c.deref.ensures.value in (
      (λ few. omega (arith, is, runs, c.is_at_most.ensures.0 few)),
      (λ few. c.is_at_most.ensures.1 (omega (arith, is, runs, few))),
    )
