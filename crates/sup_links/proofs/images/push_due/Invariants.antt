use Rattle.std.proofs.Common.{◌≡◌, ◌++◌, List}
use Rattle.sup_links.specs.Texts.{Bytes, texts}
use Rattle.sup_links.proofs.LoopLaws.{Went}
use Rattle.sup_links.proofs.images.push_due.Given as goal

abbrev pub invariant-loop-message : goal.invariant-loop-message
invariant-loop-message l = (gone : List Bytes) × Went l.initial.message-items l.message-items l.message-index gone × (texts l.out.items ≡ texts l.initial.out.items ++ gone)
