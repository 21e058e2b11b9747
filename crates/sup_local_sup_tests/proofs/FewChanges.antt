-- Changes of what is wanted under an id or two.
use Rattle.std.proofs.Common.{◌≡◌, [], ◌∷◌}
use Rattle.std.specs.declared.cmp.Ordering.TheVariants.{Less}
use Rattle.sup_specs.specs.Values.{text_cmp}
use Rattle.sup_causal.proofs.Rising.{one_rises, two_rise}
use Rattle.sup_local_sup.specs.declared.change.Change.{Change}
use Rattle.sup_local_sup.specs.Changing.{by_id, IsOwn, AreChanges}

pub one_change : (c : Change) → IsOwn c c.now → AreChanges (c ∷ [])
one_change c own = record { rise = one_rises by_id c; own = (own, tt) }

pub two_changes : (b c : Change) → text_cmp b.id c.id ≡ Less → IsOwn b b.now → IsOwn c c.now → AreChanges (b ∷ c ∷ [])
two_changes b c less own_b own_c = record { rise = two_rise by_id b c less; own = (own_b, (own_c, tt)) }
