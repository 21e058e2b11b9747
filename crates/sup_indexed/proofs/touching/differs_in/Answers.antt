use Rattle.std.proofs.Common.{rules, ◌≡◌, ◌∷◌, ◌∙◌, sym, subst}
use Rattle.sup_indexed.specs.Touched.{first_has}
use Rattle.sup_indexed.proofs.Touches.{AreStaying, staying_more}
use Rattle.sup_indexed.proofs.touching.differs_in.Goals as goal

pub loop-key-preserved : goal.loop-key-preserved
loop-key-preserved g c =
    let asked = first_has (g.P.Property.is_held c.args.property.now) in
    let left : c.loop-key.key-iterator ≡ (c.in-Some.key.now, c.in-Some.function.now) ∷ c.next.new.self = search rules in
    let same : c.holds_under.result ≡ c.holds_in.result = search rules in
    staying_more g.K.Ord.cmp c.args.changed.now c.args.stores.now g.met.K.Ord.total g.met.K.Plain.exact c.in-Some.key.now c.in-Some.function.now c.next.new.self asked (sym c.holds_under.ensures ∙ same ∙ c.holds_in.ensures)
    (subst (AreStaying g.K.Ord.cmp c.args.changed.now c.args.stores.now asked) left c.loop-key.invariant)
