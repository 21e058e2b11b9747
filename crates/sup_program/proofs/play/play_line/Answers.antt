use Rattle.std.proofs.KnownBytes.{Keeps-refl}
use Rattle.sup_program.proofs.PlayedLineLaws.{said_short, said_all}
use Rattle.sup_program.proofs.play.play_line.Goals as goal

pub returns-in-Err-clause-plays : goal.returns-in-Err-clause-plays
returns-in-Err-clause-plays g c = λ model stands tells. (c.in-Err.ensures.speaks model stands tells, Keeps-refl _)

pub returns-in_err-put_all-clause-plays : goal.returns-in_err-put_all-clause-plays
returns-in_err-put_all-clause-plays g c = λ model stands tells.
    said_short c.from_residual.result _ _ _ _ c.from_residual.ensures.1 (λ _ e. e) (c.in-Ok.ensures.speaks model stands tells) (rw c.as_slice.ensures.value at c.in_err-put_all.ensures)

pub returns-clause-plays : goal.returns-clause-plays
returns-clause-plays g c = λ model stands tells.
    said_all _ _ _ (c.in-Ok.ensures.speaks model stands tells) (rw c.as_slice.ensures.value at c.in_ok-put_all.ensures)
