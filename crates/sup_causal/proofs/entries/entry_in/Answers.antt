use Rattle.std.proofs.Common.{rules, ℕ, List, Err, sym, ap, inl, inr}
use Rattle.std.specs.Ordering.{is_eq}
use Rattle.std.proofs.lemmas.Bool.{cases_lt}
use Rattle.std.proofs.lemmas.Cmp.{on_total, nat_list_cmp_total}
use Rattle.std.proofs.lemmas.Fn.{always_returns_same}
use Rattle.sup_specs.specs.Values.{text_cmp}
use Rattle.sup_causal.proofs.Rising.{searched}
use Rattle.sup_causal.proofs.Sorted.{pairs_rise}
use Rattle.sup_causal.proofs.CutLemmas.{entry_found, entry_missed}
use Rattle.sup_causal.proofs.entries.entry_in.Goals as goal

pub returns-in-Ok : goal.returns-in-Ok
returns-in-Ok c =
    let h = c.in-Ok.ensures.position (λ e. text_cmp e.0 c.args.node.now) (always_returns_same _ _ _ (λ a r g h. (search rules, search rules))) in
    sym (entry_found c.args.vector.now (pairs_rise text_cmp c.args.vector.now c.requires) c.in-Ok.at c.args.node.now _ c.in-Ok.ensures.bound (h _))

pub returns-in-Err : goal.returns-in-Err
returns-in-Err c =
    let h = c.in-Err.ensures.position (λ e. text_cmp e.0 c.args.node.now) (always_returns_same _ _ _ (λ a r g h. (search rules, search rules))) in
    let gap = searched (on_total (λ (e : List ℕ × ℕ). e.0) nat_list_cmp_total) c.args.vector.now (pairs_rise text_cmp c.args.vector.now c.requires) (c.args.node.now, 0) (Err c.in-Err.field-0) c.in-Err.ensures.bound h in
    sym (entry_missed c.args.vector.now c.args.node.now (λ k d within. elim (cases_lt k c.in-Err.field-0) [
      | inl below ↦ ap is_eq (gap.1 k d below)
      | inr above ↦ ap is_eq (gap.2 k d above within)
    ]))
