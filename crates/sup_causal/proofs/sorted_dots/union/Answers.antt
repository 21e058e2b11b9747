use Rattle.std.proofs.Common.{◌≡◌, ◌≤◌, ◌++◌, length, arith, ap, sym, ◌∙◌, drop, ◌⊎◌, inl, inr}
use Rattle.std.proofs.lemmas.List.{take_rest}
use Rattle.sup_specs.specs.Rising.{among}
use Rattle.sup_causal.specs.Dots.{dot_cmp, dot_eq, IsCounted}
use Rattle.sup_causal.specs.DotLaws.{dot_total, dot_exact}
use Rattle.sup_causal.proofs.Union.{union, same_place, union_less, union_equal, union_greater, union_end, any_union, rising_union, each_union, length_union}
use Rattle.sup_causal.proofs.sorted_dots.union.Goals as goal
use Rattle.sup_causal.proofs.sorted_dots.union.Goals.{then-loop-i-test+else-j-right, else-loop-i-test}

pub loop-i-preserved-in-Less : goal.loop-i-preserved-in-Less
loop-i-preserved-in-Less c =
    let left = c.loop-i-test.true in
    let right = c.if-j-right.true in (
      omega (arith, left),
      c.loop-i.invariant.1,
      union_less dot_cmp c.args.left.now c.args.right.now c.loop-i.both.items _ _ c.loop-i.i c.loop-i.j c.index-left-i.result c.index-right-j.result _ left right c.index-left-i.is c.index-right-j.is
          c.loop-i.invariant.2 c.in_ok-push-in-Less.ensures.items (sym c.cmp.ensures ∙ c.in-Less.is) (same_place c.args.left.now c.loop-i.i _ _ left c.index-left-i-in-Less.is c.index-left-i.is),
    )

pub loop-i-preserved-in-Equal : goal.loop-i-preserved-in-Equal
loop-i-preserved-in-Equal c =
    let left = c.loop-i-test.true in
    let right = c.if-j-right.true in (
      omega (arith, left),
      omega (arith, right),
      union_equal dot_cmp c.args.left.now c.args.right.now c.loop-i.both.items _ _ c.loop-i.i c.loop-i.j c.index-left-i.result c.index-right-j.result _ left right c.index-left-i.is c.index-right-j.is
          c.loop-i.invariant.2 c.in_ok-push-in-Equal.ensures.items (sym c.cmp.ensures ∙ c.in-Equal.is) (same_place c.args.left.now c.loop-i.i _ _ left c.index-left-i-in-Equal.is c.index-left-i.is),
    )

pub loop-i-preserved : goal.loop-i-preserved
loop-i-preserved c =
    let left = c.loop-i-test.true in
    let right = c.if-j-right.true in (
      c.loop-i.invariant.0,
      omega (arith, right),
      union_greater dot_cmp c.args.left.now c.args.right.now c.loop-i.both.items _ _ c.loop-i.i c.loop-i.j c.index-left-i.result c.index-right-j.result _ left right c.index-left-i.is c.index-right-j.is
          c.loop-i.invariant.2 c.in_ok-push-in-Greater.ensures.items (sym c.cmp.ensures ∙ c.in-Greater.is) (same_place c.args.right.now c.loop-i.j _ _ right c.index-right-j-in-Greater.is c.index-right-j.is),
    )

all_of : (c : goal.In_ok-extend_from_slice-2) → c.extend_from_slice-2.new.self.items ≡ union dot_cmp c.args.left.now c.args.right.now
all_of c =
    let past : (length c.args.left.now ≤ c.loop-i.i) ⊎ (length c.args.right.now ≤ c.loop-i.j) = elim c.loop-i-test.branch [ then-loop-i-test+else-j-right w ↦ inr w.if-j-right.false | else-loop-i-test w ↦ inl w.loop-i-test.false ] in
    c.in_ok-extend_from_slice-2.ensures.items
    ∙ (λ k. c.in_ok-extend_from_slice.ensures.items k ++ take_rest c.args.right.now c.loop-i.j k)
    ∙ ap (λ zs. (c.loop-i.both.items ++ zs) ++ drop c.loop-i.j c.args.right.now) (take_rest c.args.left.now c.loop-i.i)
    ∙ union_end dot_cmp c.args.left.now c.args.right.now c.loop-i.both.items (union dot_cmp c.args.left.now c.args.right.now) c.loop-i.i c.loop-i.j past c.loop-i.invariant.2

pub returns-clause-kept : goal.returns-clause-kept
returns-clause-kept c = rw (all_of c) (record {
  rising = rising_union dot_cmp dot_total dot_exact c.args.left.now c.args.right.now c.requires.left.rising c.requires.right.rising;
  counted = each_union dot_cmp IsCounted c.args.left.now c.args.right.now c.requires.left.counted c.requires.right.counted;
})

pub returns-clause-dots : goal.returns-clause-dots
returns-clause-dots c d = ap (λ dots. among dot_cmp dots d) (all_of c) ∙ any_union dot_cmp dot_total dot_exact (dot_eq d) c.args.left.now c.args.right.now

pub returns-clause-bound : goal.returns-clause-bound
returns-clause-bound c = omega (arith, ap length (all_of c), length_union dot_cmp c.args.left.now c.args.right.now)
