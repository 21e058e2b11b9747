-- A keeper's count of failures rises where it failed, and only there.
use Rattle.std.proofs.Common.{◌≡◌, ◌<◌, ◌≤◌, ◌+◌, ℕ, arith}
use Rattle.sup_answering.specs.AnsweringNodes.{RisesWhere}

one_more : (before after : ℕ) → before < after → after ≤ before + 1 → after ≡ before + 1
one_more before after more most = omega arith

no_more : (before after : ℕ) → ¬ (before < after) → before ≤ after → after ≡ before
no_more before after less least = grind arith

pub rises_where : (P : Type 0) (before after : ℕ) → (P → before < after) → (before < after → P) → before ≤ after → after ≤ before + 1 → RisesWhere P before after
rises_where P before after rose told never_falls by_one = (
  (λ p. one_more before after (rose p) by_one),
  (λ other. no_more before after (λ more. other (told more)) never_falls),
)
