use Rattle.std.proofs.Common.{◌+◌, ◌-◌, ◌/◌, ◌<◌, length, ◌∙◌, arith}
use Rattle.sup_tables.specs.Lent.{row_lent}
use Rattle.sup_image_text.proofs.EditTexts.{told}
use Rattle.sup_image_text.proofs.Searches.{halved_up, halved_down}
use Rattle.sup_image_text.proofs.searching.place_from.Goals as goal

pub loop-low-preserved-then-branch : goal.loop-low-preserved-then-branch
loop-low-preserved-then-branch c = record {
  start = let h = c.loop-low.invariant.start in omega (arith, h);
  order = let test = c.loop-low-test.true in omega (arith, test);
  within = c.loop-low.invariant.within;
  halved = λ rows are.
      let test = c.loop-low-test.true in
      let within = c.loop-low.invariant.within in
      let m = c.loop-low.low + (c.loop-low.high - c.loop-low.low) / 2 in
      let less : m < length c.args.texts.now.items = omega (arith, test, within) in
      let t = told rows c.args.texts.now.items m (row_lent c.args.row.now) c.item.result.now c.in_ok-is_before.field-0 are less c.item.ensures c.in_ok-is_before.ensures in
      halved_up (row_lent c.args.row.now) rows c.args.from c.loop-low.low c.loop-low.high m (row_lent c.args.row.now) are.in_order (c.loop-low.invariant.halved rows are) c.loop-low.invariant.start (omega arith) t.0 (t.1 ∙ c.if-branch.true);
}

pub loop-low-preserved : goal.loop-low-preserved
loop-low-preserved c = record {
  start = c.loop-low.invariant.start;
  order = omega arith;
  within = let test = c.loop-low-test.true in let within = c.loop-low.invariant.within in omega (arith, test, within);
  halved = λ rows are.
      let test = c.loop-low-test.true in
      let within = c.loop-low.invariant.within in
      let m = c.loop-low.low + (c.loop-low.high - c.loop-low.low) / 2 in
      let less : m < length c.args.texts.now.items = omega (arith, test, within) in
      let t = told rows c.args.texts.now.items m (row_lent c.args.row.now) c.item.result.now c.in_ok-is_before.field-0 are less c.item.ensures c.in_ok-is_before.ensures in
      halved_down (row_lent c.args.row.now) rows c.args.from c.loop-low.low c.loop-low.high m (row_lent c.args.row.now) (c.loop-low.invariant.halved rows are) t.0 (t.1 ∙ c.if-branch.false);
}
