use Rattle.sup_dot_store.proofs.ShortLaws.{none_rise}
use Rattle.sup_dot_store.proofs.short_values.ShortValues.with_room.Goals as goal

pub invariant_of-result : goal.invariant_of-result
invariant_of-result g c = none_rise c.in_ok-items.items.items c.in_ok-items.ensures.items
