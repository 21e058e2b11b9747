use Rattle.std.proofs.Common.{◌∙◌, sym}
use Rattle.sup_journal.proofs.FileLaws.{any_here, any_later, any_none}
use Rattle.sup_journal.proofs.reading.has_record.Goals as goal

pub returns-then-is_record : goal.returns-then-is_record
returns-then-is_record c = sym (c.loop-line.invariant ∙ any_here c.loop-line.rest.now c.in-Some.line.now c.in-Some.next.now c.in-Some.ensures (sym c.is_record.ensures ∙ c.if-is_record.true))

pub loop-line-preserved : goal.loop-line-preserved
loop-line-preserved c = c.loop-line.invariant ∙ any_later c.loop-line.rest.now c.in-Some.line.now c.in-Some.next.now c.in-Some.ensures (sym c.is_record.ensures ∙ c.if-is_record.false)

pub returns : goal.returns
returns c = sym (c.loop-line.invariant ∙ any_none c.loop-line.rest.now c.in_default.ensures)
