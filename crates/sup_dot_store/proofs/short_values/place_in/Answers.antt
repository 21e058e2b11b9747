use Rattle.std.proofs.Common.{rules}
use Rattle.std.proofs.lemmas.Fn.{always_returns_same}
use Rattle.sup_causal.specs.Dots.{dot_cmp}
use Rattle.sup_dot_store.proofs.short_values.place_in.Goals as goal

pub returns-clause-position : goal.returns-clause-position
returns-clause-position g c = c.binary_search_by.ensures.position (λ e. dot_cmp e.0 c.args.dot.now) (always_returns_same _ _ _ (λ a r q h. (search rules, search rules)))
