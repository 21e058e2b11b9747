use Rattle.std.proofs.Common.{◌≡◌, ◌==◌, ◌++◌}
use Rattle.std.specs.Prelude.{not}
use Rattle.std.specs.List.{filter}
use Rattle.sup_run_ends.proofs.joining.separate.Given as goal

abbrev pub invariant-loop-pass : goal.invariant-loop-pass
invariant-loop-pass g l =
    (l.yielded ++ l.pass-iterator.rest.items ≡ l.initial.pass-iterator.rest.items)
    × (l.here.items ≡ filter (λ a. a.to == l.at) l.yielded)
    × (l.others.items ≡ filter (λ a. not (a.to == l.at)) l.yielded)
