use Rattle.std.proofs.Common.{rules, ℕ, List, Err}
use Rattle.std.proofs.lemmas.Cmp.{on_total, nat_list_cmp_total}
use Rattle.std.proofs.lemmas.Fn.{always_returns_same}
use Rattle.sup_specs.specs.Values.{text_cmp}
use Rattle.sup_causal.proofs.Rising.{searched}
use Rattle.sup_causal.proofs.Sorted.{pairs_rise}
use Rattle.sup_causal.proofs.Versions.{entry_set, versions_set, entry_insert, versions_insert}
use Rattle.sup_causal.proofs.entries.raise.Goals as goal

pub returns-in-Ok-clause-vector : goal.returns-in-Ok-clause-vector
returns-in-Ok-clause-vector c =
    let h = c.in-Ok.ensures.position (λ e. text_cmp e.0 c.args.node) (always_returns_same _ _ _ (λ a r g h. (search rules, search rules))) in
    let v = c.args.vector.now.items in
    versions_set v c.requires.vector c.in-Ok.at c.args.node c.args.count (c.args.node, 0) (search rules) (rw c.deref.ensures.value at (h (c.args.node, 0))) c.requires.low c.requires.high

pub returns-in-Ok-clause-ok : goal.returns-in-Ok-clause-ok
returns-in-Ok-clause-ok c =
    let h = c.in-Ok.ensures.position (λ e. text_cmp e.0 c.args.node) (always_returns_same _ _ _ (λ a r g h. (search rules, search rules))) in
    let v = c.args.vector.now.items in
    entry_set v (pairs_rise text_cmp v c.requires.vector.by_name) c.in-Ok.at c.args.node c.args.count (c.args.node, 0) (search rules) (rw c.deref.ensures.value at (h (c.args.node, 0)))

pub returns-in_ok-insert-in-Err-clause-vector : goal.returns-in_ok-insert-in-Err-clause-vector
returns-in_ok-insert-in-Err-clause-vector c =
    let h = c.in-Err.ensures.position (λ e. text_cmp e.0 c.args.node) (always_returns_same _ _ _ (λ a r g h. (search rules, search rules))) in
    let v = c.args.vector.now.items in
    let gap = searched (on_total (λ (e : List ℕ × ℕ). e.0) nat_list_cmp_total) v (pairs_rise text_cmp v c.requires.vector.by_name) (c.args.node, 0) (Err c.in-Err.at) (rw c.deref.ensures.value at c.in-Err.ensures.bound) (rw c.deref.ensures.value at h) in
    rw c.in_ok-insert-in-Err.ensures.items (versions_insert v c.in-Err.at c.args.node c.args.count gap.1 gap.2 c.requires.vector c.requires.low c.requires.high)

pub returns-in_ok-insert-in-Err-clause-ok : goal.returns-in_ok-insert-in-Err-clause-ok
returns-in_ok-insert-in-Err-clause-ok c =
    let h = c.in-Err.ensures.position (λ e. text_cmp e.0 c.args.node) (always_returns_same _ _ _ (λ a r g h. (search rules, search rules))) in
    let v = c.args.vector.now.items in
    let gap = searched (on_total (λ (e : List ℕ × ℕ). e.0) nat_list_cmp_total) v (pairs_rise text_cmp v c.requires.vector.by_name) (c.args.node, 0) (Err c.in-Err.at) (rw c.deref.ensures.value at c.in-Err.ensures.bound) (rw c.deref.ensures.value at h) in
    rw c.in_ok-insert-in-Err.ensures.items (entry_insert v c.in-Err.at c.args.node c.args.count gap.1 gap.2)
