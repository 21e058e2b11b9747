use Rattle.std.proofs.Common.{◌≤◌, ℕ, List, arith, ap, sym, ◌∙◌}
use Rattle.std.proofs.lemmas.Bool.{or_right}
use mathlib.Core.Bool.{false≢true}
use Rattle.sup_specs.specs.Rising.{among}
use Rattle.sup_causal.specs.Dots.{dot_cmp}
use Rattle.sup_causal.specs.Cut.{entry}
use Rattle.sup_causal.proofs.DotLemmas.{adds_nothing, nothing_added}
use Rattle.sup_causal.proofs.Views.{has_kept}
use Rattle.sup_causal.proofs.Within.{parts_within, runs_from_within}
use Rattle.sup_causal.proofs.context.CausalContextLattice.leq.Goals as goal

pub returns-then-runs_within : goal.returns-then-runs_within
returns-then-runs_within c =
    let v = c.self.inside.vector.items in
    let cloud = c.self.inside.cloud.items in
    let w = c.other.inside.vector.items in
    let mine = has_kept c.args.self.now v cloud c.self.invariant c.self.view_is in
    let theirs = has_kept c.args.other.now w c.other.inside.cloud.items c.other.invariant c.other.view_is in
    let runs : (q : List ℕ) → entry v q ≤ entry w q = λ q.
    let le : entry c.deref.result.now q ≤ entry c.deref-2.result.now q = c.runs_within.ensures.0 c.if-runs_within.true q in
    omega (arith, le, ap (λ es. entry es q) c.deref.ensures.value, ap (λ es. entry es q) c.deref-2.ensures.value) in
    let same = c.deref-then-runs_within.ensures.value in (
      (λ within. adds_nothing _ _ (λ d there.
          theirs d ∙ parts_within v w cloud c.other.inside.cloud.items runs (λ x h. sym (theirs x) ∙ c.cloud_within.ensures.0 within x (ap (λ ds. among dot_cmp ds x) same ∙ h)) d (sym (mine d) ∙ there))),
      (λ e. c.cloud_within.ensures.1 (λ d there. nothing_added _ _ e d (mine d ∙ or_right _ _ (ap (λ ds. among dot_cmp ds d) (sym same) ∙ there)))),
    )

pub returns-else-runs_within : goal.returns-else-runs_within
returns-else-runs_within c =
    let v = c.self.inside.vector.items in
    let cloud = c.self.inside.cloud.items in
    let w = c.other.inside.vector.items in
    let mine = has_kept c.args.self.now v cloud c.self.invariant c.self.view_is in
    let theirs = has_kept c.args.other.now w c.other.inside.cloud.items c.other.invariant c.other.view_is in (
      (λ wrong. absurd (false≢true (sym c.if-runs_within.false ∙ wrong))),
      (λ e. c.runs_within.ensures.1 (λ q.
          let le : entry v q ≤ entry w q = runs_from_within v w cloud c.other.inside.cloud.items c.other.invariant (λ d there. sym (theirs d) ∙ nothing_added _ _ e d (mine d ∙ there)) q in
          omega (arith, le, ap (λ es. entry es q) c.deref.ensures.value, ap (λ es. entry es q) c.deref-2.ensures.value))),
    )
