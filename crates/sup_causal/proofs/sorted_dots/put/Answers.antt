use Rattle.std.proofs.Common.{Err, ap, sym, ◌∙◌}
use Rattle.sup_specs.specs.Rising.{among}
use Rattle.sup_causal.specs.Dots.{dot_cmp, dot_eq}
use Rattle.sup_causal.specs.DotLaws.{dot_total}
use Rattle.sup_causal.proofs.Rising.{searched, rising_insert}
use Rattle.sup_causal.proofs.DotLemmas.{on_err, search_has, has_again, among-insert}
use Rattle.sup_causal.proofs.Cuts.{or_turn}
use Rattle.sup_causal.proofs.sorted_dots.put.Goals as goal

pub returns-in-Ok-clause-ok : goal.returns-in-Ok-clause-ok
returns-in-Ok-clause-ok c d =
    let dots = c.args.dots.now.items in
    let there = search_has c.deref.result.now (rw c.deref.ensures.value c.requires) c.args.dot c.binary_search.result c.binary_search.ensures.bound c.binary_search.ensures.position in
    has_again dots c.args.dot d (cc (there, c.deref.ensures.value)) ∙ or_turn (dot_eq c.args.dot d) (among dot_cmp dots d)

pub returns-in_ok-insert-in-Err-clause-rising : goal.returns-in_ok-insert-in-Err-clause-rising
returns-in_ok-insert-in-Err-clause-rising c =
    let value = c.deref.ensures.value in
    let dots = c.args.dots.now.items in
    let gap = searched dot_total dots c.requires c.args.dot (Err c.in-Err.at) (rw value at c.in-Err.ensures.bound) (rw value at c.in-Err.ensures.position) in
    rw c.in_ok-insert-in-Err.ensures.items (rising_insert dot_total dots c.in-Err.at c.args.dot c.requires gap.1 gap.2)

pub returns-in_ok-insert-in-Err-clause-ok : goal.returns-in_ok-insert-in-Err-clause-ok
returns-in_ok-insert-in-Err-clause-ok c d =
    ap (λ dots. among dot_cmp dots d) c.in_ok-insert-in-Err.ensures.items ∙ among-insert _ _ c.args.dot d ∙ or_turn (dot_eq c.args.dot d) (among dot_cmp c.args.dots.now.items d)

pub returns-in_err-insert-in-Err-clause-fresh : goal.returns-in_err-insert-in-Err-clause-fresh
returns-in_err-insert-in-Err-clause-fresh c =
    let dots = c.args.dots.now.items in
    on_err c.from_residual.result (sym (search_has dots c.requires c.args.dot (Err c.in-Err.at) (rw c.deref.ensures.value at c.in-Err.ensures.bound) (rw c.deref.ensures.value at c.in-Err.ensures.position)))
