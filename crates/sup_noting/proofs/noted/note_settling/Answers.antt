use Rattle.std.proofs.Common.{◌≡◌, length, map, arith}
use Rattle.std.proofs.lemmas.Grind.{common_steps}
use Rattle.sup_noting.specs.Turns.{effect_at}
use Rattle.sup_noting.proofs.AddedLaws.{added_one}
use Rattle.sup_noting.proofs.noted.note_settling.Goals as goal

pub returns-clause-changes : goal.returns-clause-changes
returns-clause-changes c =
    let count : c.len-row.result ≡ length c.args.log.now.rows.items = grind (arith, common_steps) in
    rw (← count) (added_one c.add.result _ _ _ _ (map (λ e. effect_at c.len-row.result e.0 e.1) c.args.effects.now)
    c.new-changes.ensures.items c.in_ok-add_effects_of.ensures c.add.ensures.changes)
