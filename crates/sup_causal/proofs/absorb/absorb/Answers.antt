use Rattle.std.proofs.Common.{◌||◌, ap, sym, ◌∙◌, inl, inr}
use Rattle.std.proofs.lemmas.Bool.{or_cases, or_left, or_right}
use Rattle.sup_specs.specs.Rising.{among}
use Rattle.sup_causal.specs.Dots.{dot_cmp, dot_eq}
use Rattle.sup_causal.proofs.DotLemmas.{or_assoc}
use Rattle.sup_causal.specs.Parts.{in_vector}
use Rattle.sup_causal.proofs.Cuts.{before_less, has_more}
use Rattle.sup_causal.proofs.absorb.absorb.Goals as goal

pub take_in-requires-clause-last : goal.take_in-requires-clause-last
take_in-requires-clause-last c d there = before_less c.args.dots.now c.loop-dot.dot-index c.dot-item.result c.loop-dot-test.true c.dot-item.is c.requires.dots.rising d (c.loop-dot.invariant.2 d there)

pub loop-dot-preserved : goal.loop-dot-preserved
loop-dot-preserved c =
    let dots = c.args.dots.now in
    let i = c.loop-dot.dot-index in
    let x = c.dot-item.result in
    let more = has_more dots i x c.loop-dot-test.true c.dot-item.is in (
      c.in_ok-take_in.ensures.canonical,
      (λ d.
          c.in_ok-take_in.ensures.dots d
          ∙ ap (λ b. b || dot_eq x d) (c.loop-dot.invariant.1 d)
          ∙ or_assoc (in_vector c.args.vector.now.items d) _ (dot_eq x d)
          ∙ ap (λ b. in_vector c.args.vector.now.items d || b) (sym (more d))),
      (λ d there. more d ∙ elim (or_cases (among dot_cmp c.loop-dot.cloud.items d) (dot_eq x d) (c.in_ok-take_in.ensures.below d there)) [
        | inl old ↦ or_left _ _ (c.loop-dot.invariant.2 d old)
        | inr same ↦ or_right _ _ same
      ]),
    )
