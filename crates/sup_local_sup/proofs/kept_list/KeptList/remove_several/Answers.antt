use Rattle.std.proofs.Common.{sym, subst, ◌∙◌, ◌++◌, not}
use Rattle.std.specs.Str.{bytes_eq}
use Rattle.std.specs.Map.{keys_of}
use Rattle.std.specs.List.{IsDistinct}
use Rattle.std.proofs.lemmas.List.Elements.{filter-append}
use Rattle.std.proofs.lemmas.Map.Made.{IsDistinct-keys_filter}
use Rattle.sup_local_sup.specs.Keeping.{KeptChild}
use Rattle.sup_local_sup.specs.Changing.{is_among}
use Rattle.sup_local_sup.proofs.kept_list.KeptList.remove_several.Goals as goal

pub invariant_of-self : goal.invariant_of-self
invariant_of-self c =
    subst (λ l. IsDistinct bytes_eq (keys_of l))
    (sym ((λ j. c.keep_none_of.ensures j ++ c.remove_each_late.ensures j) ∙ sym (filter-append (λ (k : KeptChild). not (is_among c.args.ids.now k)) c.self.inside.map.entries c.self.inside.late)))
    (IsDistinct-keys_filter bytes_eq (λ (k : KeptChild). not (is_among c.args.ids.now k)) (c.self.inside.map.entries ++ c.self.inside.late) c.self.invariant)
