use Rattle.std.proofs.Common.{◌≡◌, ◌+◌, drop}
use Rattle.sup_causal.specs.Parts.{total_of}
use Rattle.sup_causal.proofs.context.within.is_at_most.Given as goal

-- what the entries that are left may still have
abbrev pub invariant-loop-entry : goal.invariant-loop-entry
invariant-loop-entry l = (total_of l.vector + l.cloud) + l.left ≡ total_of (drop l.entry-index l.vector) + l.most
