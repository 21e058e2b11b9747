use Rattle.std.proofs.Common.{◌≡◌, true, refl, ap, sym, ◌∙◌, subst}
use Rattle.std.specs.Prelude.{All}
use Rattle.std.proofs.lemmas.Cmp.{tied_itself}
use Rattle.std.proofs.lemmas.List.{take_all}
use Rattle.std.proofs.lemmas.List.Elements.{All-more, recursion_from_All}
use mathlib.Core.Bool.{false≢true}
use Rattle.sup_causal.specs.declared.dot.Dot.{Dot}
use Rattle.sup_causal.specs.Dots.{has, dot_cmp}
use Rattle.sup_causal.specs.DotLaws.{dot_total}
use Rattle.sup_causal.proofs.DotLemmas.{has_at, each_has}
use Rattle.sup_causal.proofs.context.within.cloud_within.Goals as goal

pub returns-then-not-contains : goal.returns-then-not-contains
returns-then-not-contains c =
    let x = c.dot-item.result in
    let there = has_at c.args.dots.now c.loop-dot.dot-index x c.loop-dot-test.true (ap (λ y. dot_cmp y x) (sym c.dot-item.is) ∙ tied_itself dot_total x) in
    (λ wrong. absurd (false≢true wrong), λ all. absurd (false≢true (sym c.if-not-contains.true ∙ c.contains.ensures.has ∙ all x there)))

pub loop-dot-preserved : goal.loop-dot-preserved
loop-dot-preserved c =
    All-more (λ d. has c.args.other.now d ≡ true) c.args.dots.now c.loop-dot.dot-index c.dot-item.result c.loop-dot-test.true c.loop-dot.invariant
    (subst (λ (d : Dot). has c.args.other.now d ≡ true) c.dot-item.is (sym c.contains.ensures.has ∙ c.if-not-contains.false))

pub returns : goal.returns
returns c =
    let dots = c.args.dots.now in
    let all = subst (All (λ d. has c.args.other.now d ≡ true)) (take_all _ dots c.loop-dot-test.false) c.loop-dot.invariant in
    (λ _ d there. each_has (λ d. has c.args.other.now d ≡ true) dots (recursion_from_All (λ d. has c.args.other.now d ≡ true) dots all) d there, λ _. refl)
