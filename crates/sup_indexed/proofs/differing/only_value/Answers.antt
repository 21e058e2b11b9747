use Rattle.std.proofs.Common.{rules, ◌≡◌, length}
use Rattle.std.proofs.lemmas.Option.{IfSome_then}
use Rattle.sup_indexed.proofs.Differences.{only_of}
use Rattle.sup_indexed.proofs.differing.only_value.Goals as goal

pub returns : goal.returns
returns g c =
    let es = c.args.function.now.values.entries in
    let one : length es ≡ 1 = search rules in
    IfSome_then c.first.result c.first.ensures.some (λ e first. only_of es (e.0.now, e.1.now) one first)
