use Rattle.std.proofs.Common.{◌++◌, [], ◌∷◌, ap, sym, ◌∙◌, append_assoc, subst, refl}
use Rattle.std.specs.List.{AllZip}
use Rattle.sup_posts.proofs.ItemLaws.{none_left}
use Rattle.sup_driving.specs.Wires.{HavePut}
use Rattle.sup_driving.proofs.WirePutLaws.{none_put, put_more}
use Rattle.sup_driving.proofs.wires.put_letters.Goals as goal

pub loop-letter-init : goal.loop-letter-init
loop-letter-init g c = (refl, none_put c.args.wires.now)

pub loop-letter-preserved : goal.loop-letter-preserved
loop-letter-preserved g c = (
  append_assoc c.loop-letter.yielded (c.in-Some.letter ∷ []) c.next.new.self.rest.items ∙ (ap (λ l. c.loop-letter.yielded ++ l) (sym c.in-Some.ensures.steps.0) ∙ c.loop-letter.invariant.0),
  put_more c.loop-letter.yielded c.in-Some.letter c.args.wires.now c.loop-letter.wires c.put_letter.new.wires c.loop-letter.invariant.1 c.in_ok-put_letter.ensures.put,
)

pub returns-clause-put : goal.returns-clause-put
returns-clause-put g c =
    let all = none_left c.loop-letter.yielded c.loop-letter.letter-iterator.rest.items c.args.letters.items (sym c.loop-letter.letter-iterator.rest.ok.0 ∙ c.in-None.ensures.steps.0)
    (c.loop-letter.invariant.0 ∙ c.into_iter-letter-iterator.ensures.into_iter_gives.0) in
    subst (λ l. AllZip (HavePut l) c.args.wires.now c.loop-letter.wires) all c.loop-letter.invariant.1
