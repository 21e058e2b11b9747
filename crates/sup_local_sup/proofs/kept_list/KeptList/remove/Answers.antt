use Rattle.std.proofs.Common.{sym, ap, subst, ◌∙◌, ◌++◌, not}
use Rattle.std.specs.Str.{bytes_eq}
use Rattle.std.specs.Map.{keys_of}
use Rattle.std.specs.List.{IsDistinct}
use Rattle.std.proofs.lemmas.Map.Made.{IsDistinct-keys_filter}
use Rattle.sup_local_sup.specs.Keeping.{KeptChild}
use Rattle.sup_local_sup.specs.Supervising.{others}
use Rattle.sup_local_sup.proofs.PlaceLaws.{removed_once, both_without}
use Rattle.sup_local_sup.proofs.kept_list.KeptList.remove.Goals as goal

pub returns : goal.returns
returns c =
    (λ j. (c.shift_remove-gone.ensures.entries ∙ removed_once c.args.id.now c.self.inside.map.entries c.len-once.ensures.unique) j ++ c.remove_late.ensures j)
    ∙ sym (both_without c.args.id.now c.self.inside.map.entries c.self.inside.late)
    ∙ ap (λ l. others l c.args.id.now) c.self.view_is

pub invariant_of-self : goal.invariant_of-self
invariant_of-self c =
    subst (λ l. IsDistinct bytes_eq (keys_of l))
    (sym ((λ j. (c.shift_remove-gone.ensures.entries ∙ removed_once c.args.id.now c.self.inside.map.entries c.len-once.ensures.unique) j ++ c.remove_late.ensures j)
    ∙ sym (both_without c.args.id.now c.self.inside.map.entries c.self.inside.late)))
    (IsDistinct-keys_filter bytes_eq (λ (k : KeptChild). not (bytes_eq c.args.id.now k.0)) (c.self.inside.map.entries ++ c.self.inside.late) c.self.invariant)
