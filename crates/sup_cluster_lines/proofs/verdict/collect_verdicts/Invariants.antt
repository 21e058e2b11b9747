use Rattle.std.proofs.Common.{◌≡◌, drop}
use Rattle.sup_lines.specs.Words.{texts}
use Rattle.sup_cluster_lines.specs.Verdicts.{verdicts_of}
use Rattle.sup_cluster_lines.proofs.LinkSearchLaws.{after_verdicts}
use Rattle.sup_cluster_lines.proofs.verdict.collect_verdicts.Given as goal

abbrev pub invariant-loop-word : goal.invariant-loop-word
invariant-loop-word l = after_verdicts l.verdicts.items (verdicts_of (texts (drop l.word-index l.words))) ≡ verdicts_of (texts l.words)
