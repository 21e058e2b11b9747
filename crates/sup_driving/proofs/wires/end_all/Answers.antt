use Rattle.std.proofs.Common.{◌++◌, [], ◌∷◌, ap, sym, ◌∙◌, append_assoc, subst}
use Rattle.std.specs.List.{AllZip}
use Rattle.std.proofs.lemmas.Slice.Zip.{all_zipped_more}
use Rattle.sup_driving.specs.Wires.{IsEnded}
use Rattle.sup_driving.proofs.wires.end_all.Goals as goal

pub loop-wire-preserved : goal.loop-wire-preserved
loop-wire-preserved g c = (
  append_assoc c.loop-wire.yielded (c.in-Some.wire ∷ []) c.next.new.self.rest.items ∙ (ap (λ l. c.loop-wire.yielded ++ l) (sym c.in-Some.ensures.steps.0) ∙ c.loop-wire.invariant.0),
  subst (AllZip IsEnded (c.loop-wire.yielded ++ c.in-Some.wire ∷ [])) (sym c.in_ok-push.ensures.items)
      (all_zipped_more IsEnded c.loop-wire.yielded c.loop-wire.ended.items c.in-Some.wire c.end.result c.loop-wire.invariant.1
      (record { link = c.end.ensures.link; script = c.end.ensures.script; put = c.end.ensures.put })),
)
