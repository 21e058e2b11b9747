use Rattle.std.proofs.Common.{◌≡◌, ◌+◌, ◌||◌, take, arith, ap, sym, ◌∙◌}
use Rattle.std.proofs.lemmas.List.Folds.{list_any_more}
use Rattle.sup_causal.specs.Cut.{entry, in_run, in_runs}
use Rattle.sup_causal.specs.declared.dot.Dot.{Dot}
use Rattle.sup_causal.proofs.DotLemmas.{or_assoc}
use Rattle.sup_causal.specs.Parts.{in_vector}
use Rattle.sup_causal.proofs.Versions.{raised_has, run_there}
use Rattle.sup_causal.proofs.entries.lift.Goals as goal
use Rattle.sup_causal.proofs.entries.lift.Goals.{then-entry_in-entry+in_ok-raise, else-entry_in-entry}

pub loop-node-preserved : goal.loop-node-preserved
loop-node-preserved c =
    let others = c.args.others.now in
    let i = c.loop-node.node-index in
    let e = c.loop-node-item.result in
    let v = c.loop-node.vector.items in
    let is : c.entry_in.result ≡ entry v e.0 = c.entry_in.ensures ∙ ap (λ es. entry es e.0) c.deref.ensures.value in
    let more : (d : Dot) → ((in_vector v d) || in_run e.0 e.1 d) ≡ (in_vector c.args.vector.now.items d || in_runs (take (i + 1) others) d) = λ d.
    ap (λ b. b || in_run e.0 e.1 d) (c.loop-node.invariant.1 d)
    ∙ or_assoc (in_vector c.args.vector.now.items d) _ (in_run e.0 e.1 d)
    ∙ (λ k. in_vector c.args.vector.now.items d || (in_runs (take i others) d || in_run (c.loop-node-item.is k).0 (c.loop-node-item.is k).1 d))
    ∙ ap (λ b. in_vector c.args.vector.now.items d || b) (sym (list_any_more (λ e. in_run e.0 e.1 d) others i e c.loop-node-test.true)) in
    elim c.if-entry_in-entry.branch [
      | then-entry_in-entry+in_ok-raise w ↦ rw w.vector-is (
        w.in_ok-raise.ensures.vector,
        λ d. raised_has v w.raise.new.vector.items e.0 e.1 (omega (arith, is, w.if-entry_in-entry.true)) w.in_ok-raise.ensures.ok d ∙ more d,
      )
      | else-entry_in-entry w ↦ rw w.vector-is (
        c.loop-node.invariant.0,
        λ d. run_there v e.0 e.1 (omega (arith, is, w.if-entry_in-entry.false)) d ∙ more d,
      )
    ]
