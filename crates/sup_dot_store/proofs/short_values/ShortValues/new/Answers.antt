use Rattle.sup_dot_store.proofs.ShortLaws.{none_rise}
use Rattle.sup_dot_store.proofs.short_values.ShortValues.new.Goals as goal

pub invariant_of-result : goal.invariant_of-result
invariant_of-result g c = none_rise c.new.result.items c.new.ensures.items
