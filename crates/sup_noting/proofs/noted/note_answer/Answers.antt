use Rattle.std.proofs.Common.{◌≡◌, length, map, arith}
use Rattle.std.proofs.lemmas.Grind.{common_steps}
use Rattle.sup_noting.specs.Turns.{effect_at, turns_of}
use Rattle.sup_noting.proofs.AddedLaws.{added_two}
use Rattle.sup_noting.proofs.noted.note_answer.Goals as goal

pub returns-clause-changes : goal.returns-clause-changes
returns-clause-changes c =
    let row = c.len-row.result in let count : row ≡ length c.args.log.now.rows.items = grind (arith, common_steps) in
    rw (← count) (added_two c.add.result _ _ _ _ _ (turns_of row c.args.step.now) (map (effect_at row c.args.at.now) c.args.done.now.effects)
    c.new-changes.ensures.items c.in_ok-add_turn.ensures (rw c.as_slice.ensures at c.in_ok-add_effects.ensures) c.add.ensures.changes)
