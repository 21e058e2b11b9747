use Rattle.std.proofs.Common.{◌≡◌, ◌∙◌, sym, ap, Result, Ok, Err}
use Rattle.std.specs.Prelude.{OnOk, if◌then◌else◌}
use Rattle.std.specs.Str.{bytes_eq}
use Rattle.sup_placement.specs.Assigned.{is_there}
use Rattle.sup_placement.proofs.ThereLaws.{or_as_if}
use Rattle.sup_placement.proofs.assignment.Assignment.touch.Goals as goal

on_ok_then : {A E P Q : Type 0} (r : Result A E) → (P → Q) → OnOk r P → OnOk r Q
on_ok_then (Ok a) f h = f h
on_ok_then (Err e) f h = tt

pub returns-then-present-clause-there : goal.returns-then-present-clause-there
returns-then-present-clause-there g c q =
    on_ok_then c.put.result
    (λ h. h ∙ or_as_if (bytes_eq c.args.id.now q) (is_there c.args.self.now q) ∙ ap (λ b. if bytes_eq c.args.id.now q then b else is_there c.args.self.now q) (sym c.if-present.true))
    (c.put.ensures.there q)
