use Rattle.std.proofs.Common.{◌≡◌, ◌++◌, take, drop}
use Rattle.sup_links.specs.Waiting.{waiting, counted}
use Rattle.sup_links.proofs.held.count_down.Given as goal

-- those behind the place are still to be counted
abbrev pub invariant-loop-message : goal.invariant-loop-message
invariant-loop-message l = take l.message-index (waiting l.message-items) ++ counted (waiting (drop l.message-index l.message-items)) ≡ counted (waiting l.initial.message-items)
