use Rattle.std.proofs.Common.{◌≡◌, ◌≤◌, refl, arith, ap, sym, ◌∙◌, subst}
use Rattle.std.specs.Prelude.{All}
use Rattle.std.proofs.lemmas.Cmp.{nat_list_cmp_total, tied_itself}
use Rattle.std.proofs.lemmas.List.{take_all}
use Rattle.std.proofs.lemmas.List.Elements.{recursion_from_All}
use mathlib.Core.Bool.{false≢true}
use Rattle.sup_specs.specs.Values.{text_cmp}
use Rattle.sup_causal.specs.Cut.{entry}
use Rattle.sup_causal.proofs.Sorted.{pairs_rise}
use Rattle.sup_causal.proofs.CutLemmas.{entry_found}
use Rattle.sup_causal.proofs.Versions.{entries_within}
use Rattle.sup_causal.proofs.context.within.runs_within.Goals as goal

pub returns-then-entry_in-entry : goal.returns-then-entry_in-entry
returns-then-entry_in-entry c =
    let v = c.args.vector.now in
    let e = c.loop-node-item.result in
    let tie = ap (λ y. text_cmp y.0 e.0) (sym c.loop-node-item.is) ∙ tied_itself nat_list_cmp_total e.0 in
    let found : entry v e.0 ≡ e.1 = entry_found v (pairs_rise text_cmp v c.requires.vector.by_name) c.loop-node.node-index e.0 e c.loop-node-test.true tie ∙ ap (λ y. y.1) (sym c.loop-node-item.is) in
    (λ wrong. absurd (false≢true wrong), λ all. let le : entry v e.0 ≤ entry c.args.others.now e.0 = all e.0 in absurd (omega (arith, le, found, c.entry_in.ensures, c.if-entry_in-entry.true)))

pub returns : goal.returns
returns c =
    let v = c.args.vector.now in
    let others = c.args.others.now in
    let all = subst (All (λ e. e.1 ≤ entry others e.0)) (take_all _ v c.loop-node-test.false) c.loop-node.invariant in
    (λ _. entries_within others v (recursion_from_All (λ e. e.1 ≤ entry others e.0) v all), λ _. refl)
