use Rattle.std.proofs.Common.{◌++◌, ◌∙◌, sym, ap, arith}
use Rattle.sup_journal.proofs.EditLaws.{made_then, edit_none, edit_spent}
use Rattle.sup_journal.proofs.edits.edited.Goals.{then-loop-turns-test+else-rest-ge-HEAD, else-loop-turns-test}
use Rattle.sup_journal.proofs.edits.edited.Goals as goal

pub loop-turns-preserved : goal.loop-turns-preserved
loop-turns-preserved c = made_then _ c.loop-turns.made.items c.loop-turns.rest.now c.loop-turns.from.now c.extend_from_slice.new.self.items c.extend_from_slice-in-loop-turns.new.self.items
    c.front.result.now c.front-in-loop-turns.result.now c.behind-texts.result.now c.behind-rest.result.now c.behind-from.result.now c.behind.result.now
    c.loop-turns.turns c.counts_of-retained.result.0 c.counts_of-retained.result.1 c.counts_of-retained.result.2
    c.loop-turns.invariant c.loop-turns-test.true c.if-rest-ge-HEAD.true
    c.counts_of-retained.ensures.retained c.counts_of-retained.ensures.deleted c.counts_of-retained.ensures.inserted c.behind-texts.ensures
    c.front.ensures c.in_ok-extend_from_slice.ensures.items c.front-in-loop-turns.ensures c.in_ok-extend_from_slice-2.ensures.items
    c.behind-rest.ensures c.behind.ensures c.behind-from.ensures

pub returns : goal.returns
returns c = c.in_ok-extend_from_slice-3.ensures.items ∙ ap (λ t. c.loop-turns.made.items ++ t) (sym (elim c.loop-turns-test.branch [
  | then-loop-turns-test+else-rest-ge-HEAD w ↦ edit_none c.loop-turns.turns c.loop-turns.rest.now c.loop-turns.from.now w.if-rest-ge-HEAD.false
  | else-loop-turns-test w ↦ edit_spent c.loop-turns.turns c.loop-turns.rest.now c.loop-turns.from.now (omega (arith, w.loop-turns-test.false))
])) ∙ sym c.loop-turns.invariant
