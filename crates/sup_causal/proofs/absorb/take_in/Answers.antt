use Rattle.std.proofs.Common.{◌≡◌, ◌≤◌, ◌+◌, false, arith, sym, ap, ◌∙◌}
use Rattle.std.proofs.lemmas.Bool.{false_from_ne_true}
use Rattle.sup_causal.specs.Cut.{entry}
use Rattle.sup_specs.specs.Rising.{among}
use Rattle.sup_causal.specs.Dots.{dot_cmp}
use Rattle.sup_causal.specs.declared.dot.Dot.{Dot}
use Rattle.sup_causal.proofs.DotLemmas.{counter_from_less, each_from_has}
use Rattle.sup_causal.proofs.Versions.{entry_most}
use Rattle.sup_causal.proofs.Cuts.{parts_again, in_its_run, raised_parts, raised_canonical, cloud_parts, cloud_canonical, rising_push, has_push}
use Rattle.std.specs.declared.cmp.Ordering.TheVariants.{Less}
use Rattle.sup_causal.proofs.absorb.take_in.Goals as goal

pub overflow_add-entry : goal.overflow_add-entry
overflow_add-entry c =
    let most : entry c.args.vector.now.items c.args.dot.now.node ≤ 9007199254740991 = entry_most c.args.vector.now.items c.requires.canonical.entries c.args.dot.now.node in
    let is : c.entry_in-entry.result ≡ entry c.args.vector.now.items c.args.dot.now.node = c.entry_in-entry.ensures ∙ ap (λ v. entry v c.args.dot.now.node) c.deref.ensures.value in
    omega (arith, most, is)

-- a dot of a run
pub returns-then-dot-entry-clause-dots : goal.returns-then-dot-entry-clause-dots
returns-then-dot-entry-clause-dots c =
    let is : c.entry_in-entry.result ≡ entry c.args.vector.now.items c.args.dot.now.node = c.entry_in-entry.ensures ∙ ap (λ v. entry v c.args.dot.now.node) c.deref.ensures.value in
    parts_again c.args.vector.now.items c.args.cloud.now.items c.args.dot.now (in_its_run c.args.vector.now.items c.args.cloud.now.items c.args.dot.now c.requires.counted.0 (omega (arith, is, c.if-dot-entry.true)))

-- one that goes on with its run

pub returns-then-dot-entry-2-clause-canonical : goal.returns-then-dot-entry-2-clause-canonical
returns-then-dot-entry-2-clause-canonical c =
    let x = c.args.dot.now in
    let above : Dot = record { counter = x.counter + 1; node = x.node } in
    let none : among dot_cmp c.args.cloud.now.items above ≡ false = false_from_ne_true _ (λ there. let le : above.counter ≤ x.counter = counter_from_less above x (c.requires.last above there) in omega (arith, le)) in
    let next = c.if-dot-entry-2.true ∙ ap (λ n. n + 1) (c.entry_in-entry.ensures ∙ ap (λ v. entry v x.node) c.deref.ensures.value) in
    raised_canonical c.args.vector.now.items c.raise.new.vector.items c.args.cloud.now.items x next c.in_ok-raise.ensures.ok c.requires.canonical c.in_ok-raise.ensures.vector none

pub returns-then-dot-entry-2-clause-dots : goal.returns-then-dot-entry-2-clause-dots
returns-then-dot-entry-2-clause-dots c =
    let x = c.args.dot.now in
    let next = c.if-dot-entry-2.true ∙ ap (λ n. n + 1) (c.entry_in-entry.ensures ∙ ap (λ v. entry v x.node) c.deref.ensures.value) in
    raised_parts c.args.vector.now.items c.raise.new.vector.items c.args.cloud.now.items x next c.in_ok-raise.ensures.ok

-- one that is left over
pub returns-clause-canonical : goal.returns-clause-canonical
returns-clause-canonical c =
    let x = c.args.dot.now in
    let cloud = c.args.cloud.now.items in
    let is : c.entry_in-entry.result ≡ entry c.args.vector.now.items x.node = c.entry_in-entry.ensures ∙ ap (λ v. entry v x.node) c.deref.ensures.value in
    rw c.in_ok-push.ensures.items (cloud_canonical c.args.vector.now.items cloud _ x (has_push cloud x) c.requires.canonical
    (rising_push cloud x c.requires.canonical.in_order (each_from_has (λ y. dot_cmp y x ≡ Less) cloud c.requires.last))
    (omega (arith, is, c.if-dot-entry.false, c.if-dot-entry-2.false)) c.requires.counted.1)

pub returns-clause-dots : goal.returns-clause-dots
returns-clause-dots c =
    rw c.in_ok-push.ensures.items (cloud_parts c.args.vector.now.items c.args.cloud.now.items _ c.args.dot.now (has_push c.args.cloud.now.items c.args.dot.now))

pub returns-clause-below : goal.returns-clause-below
returns-clause-below c d there = sym (has_push c.args.cloud.now.items c.args.dot.now d) ∙ ap (λ ys. among dot_cmp ys d) (sym c.in_ok-push.ensures.items) ∙ there
