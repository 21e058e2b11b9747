use Rattle.std.proofs.Common.{take}
use Rattle.sup_posts.proofs.GravestFaultLaws.{Told}
use Rattle.sup_posts.proofs.telling.gravest.Given as goal

abbrev pub invariant-loop-result : goal.invariant-loop-result
invariant-loop-result g l = Told l.worst (take l.result-index l.results)
