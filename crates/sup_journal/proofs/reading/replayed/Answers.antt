use Rattle.std.proofs.Common.{◌≡◌, ℕ, ◌∙◌, sym, subst, arith}
use Rattle.std.specs.Prelude.{Result, Ok, IfOk, IfErr}
use Rattle.sup_specs.specs.Values.{Bytes}
use Rattle.sup_journal.specs.Files.{ended_lines, judged, replayed, IsFaultOf}
use Rattle.sup_journal.proofs.LineLaws.{cut_shorter}
use Rattle.sup_journal.proofs.FileLaws.{read_more, read_bad, read_all}
use Rattle.sup_journal.proofs.reading.replayed.Goals as goal

bad : (c : goal.After-judged) → replayed 2 c.args.first.now (ended_lines c.args.others.now) ≡ judged c.loop-line.number c.loop-line.image.items (ended_lines c.in-Some.next.now)
bad c = read_bad _ c.loop-line.number c.loop-line.image.items c.loop-line.rest.now c.in-Some.line.now c.in-Some.next.now c.loop-line.invariant.0 c.in-Some.ensures (sym c.is_sound.ensures ∙ c.if-not-is_sound.true)

pub returns-then-not-is_sound-clause-image : goal.returns-then-not-is_sound-clause-image
returns-then-not-is_sound-clause-image c = subst (λ (reading : Result Bytes ℕ). IfOk c.judged.result (λ image. reading ≡ Ok image.items)) (sym (bad c)) c.judged.ensures.image

pub returns-then-not-is_sound-clause-fault : goal.returns-then-not-is_sound-clause-fault
returns-then-not-is_sound-clause-fault c = subst (λ (reading : Result Bytes ℕ). IfErr c.judged.result (IsFaultOf reading)) (sym (bad c)) c.judged.ensures.fault

pub loop-line-preserved : goal.loop-line-preserved
loop-line-preserved c = (
  read_more _ c.loop-line.number c.loop-line.image.items c.in_ok-image-2.image.items c.loop-line.rest.now c.in-Some.line.now c.in-Some.next.now c.loop-line.invariant.0 c.in-Some.ensures
      (sym c.is_sound.ensures ∙ c.if-not-is_sound.false) c.in_ok-image-2.ensures,
  omega (arith, cut_shorter c.loop-line.rest.now c.in-Some.line.now c.in-Some.next.now c.in-Some.ensures, c.loop-line.invariant.1),
)

pub returns-clause-image : goal.returns-clause-image
returns-clause-image c = read_all _ c.loop-line.number c.loop-line.image.items c.loop-line.rest.now c.loop-line.invariant.0 c.in_default.ensures
