use Rattle.std.proofs.Common.{◌≡◌, ◌++◌, [], ◌∷◌, false, None, Some, Option, ap, sym, subst, refl, ◌∙◌, length, get_or, arith, append_assoc, Result, Ok}
use Rattle.std.specs.Prelude.{OnOk}
use Rattle.std.specs.Option.{is_some}
use Rattle.std.specs.Str.{bytes_eq}
use Rattle.std.specs.Map.{lookup}
use Rattle.indexmap.proofs.CallerLemmas.{insert_entry-new}
use Rattle.sup_local_sup.specs.Keeping.{KeptChild}
use Rattle.sup_local_sup.proofs.late.move_in.Goals as goal

none : {X : Type 0} (o : Option X) → is_some o ≡ false → o ≡ None
none None h = refl
none (Some x) h = cc

at_ok : {A E P : Type 0} (r : Result A E) (a : A) → r ≡ Ok a → OnOk r P → P
at_ok {A} {E} {P} r a e h = subst (λ (r : Result A E). OnOk r P) e h

pub loop-id-preserved-in-Some-pop_front-2 : goal.loop-id-preserved-in-Some-pop_front-2
loop-id-preserved-in-Some-pop_front-2 c =
    let id = c.in-Some-pop_front.id in
    let entry = c.in-Some-pop_front.kept in
    let same : c.in-Some.field-0.now ≡ (id, entry) = c.in-Some.ensures.lookup ∙ ap (λ l. get_or l 0 c.in-Some.field-0.now) c.in-Some-pop_front.ensures.items in
    let absent : lookup (bytes_eq id) c.loop-id.map.entries ≡ None =
    none _ (ap (λ (k : KeptChild). is_some (lookup (bytes_eq k.0) c.loop-id.map.entries)) (sym same) ∙ sym c.contains_key.ensures ∙ c.if-contains_key.false) in
    let put = at_ok c.insert.result c.unwrap.result c.unwrap.ensures c.insert.ensures.entries ∙ insert_entry-new bytes_eq c.loop-id.map id entry absent in (
      ap (λ l. l ++ c.pop_front.new.self) put
          ∙ append_assoc c.loop-id.map.entries ((id, entry) ∷ []) c.pop_front.new.self
          ∙ ap (λ l. c.loop-id.map.entries ++ l) (sym c.in-Some-pop_front.ensures.items)
          ∙ c.loop-id.invariant.0,
      omega (arith, c.loop-id.invariant.1, ap length c.in-Some-pop_front.ensures.items, c.insert.ensures.spare),
    )
