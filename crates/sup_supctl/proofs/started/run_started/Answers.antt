use Rattle.std.proofs.Common.{rules, ◌≡◌, refl}
use Rattle.std.specs.Process.{exit_status}
use Rattle.sup_supctl.proofs.started.run_started.Goals as goal

pub returns : goal.returns
returns g c =
    let same : c.run_behind_name-ended.result.status ≡ exit_status c.from.result = search rules in
    (c.run_behind_name-ended.result, same, refl, c.run_behind_name-ended.ensures)
