use Rattle.std.proofs.Common.{◌≡◌, drop, is_some}
use Rattle.sup_lines.specs.Words.{texts}
use Rattle.sup_cluster_lines.specs.Verdicts.{verdicts_of}
use Rattle.sup_cluster_lines.proofs.verdict.check_verdicts.Given as goal

abbrev pub invariant-loop-word : goal.invariant-loop-word
invariant-loop-word l = is_some (verdicts_of (texts (drop l.word-index l.words))) ≡ is_some (verdicts_of (texts l.words))
