use Rattle.std.proofs.Common.{◌≡◌, ◌++◌, List}
use Rattle.sup_links.specs.Texts.{Bytes, put_said, on_way}
use Rattle.sup_links.proofs.LoopLaws.{Went}
use Rattle.sup_links.proofs.sending.send_due.Given as goal

abbrev pub invariant-loop-message : goal.invariant-loop-message
invariant-loop-message g l = (gone : List Bytes) × Went l.initial.message-items l.message-items l.message-index gone × (put_said l.entry.pass ≡ put_said l.initial.entry.pass ++ on_way gone) × (l.entry.end ≡ l.initial.entry.end)
