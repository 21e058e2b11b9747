use Rattle.std.proofs.Common.{rules, ◌++◌, [], ◌∷◌, ap, sym, ◌∙◌, append_assoc}
use Rattle.std.specs.Prelude.{IsOk}
use Rattle.std.proofs.lemmas.List.Elements.{All-rest}
use Rattle.sup_run_ends.proofs.ReturnedPassLaws.{taken_more}
use Rattle.sup_run_ends.proofs.joining.part_all.Goals as goal

pub loop-ended-preserved : goal.loop-ended-preserved
loop-ended-preserved g c = (
  append_assoc c.loop-ended.yielded (c.in-Some.ended ∷ []) c.next.new.self.rest.items ∙ (ap (λ l. c.loop-ended.yielded ++ l) (sym (search rules)) ∙ c.loop-ended.invariant.0),
  All-rest IsOk c.in-Some.ended _ _ (search rules) c.loop-ended.invariant.1,
  taken_more c.loop-ended.yielded c.loop-ended.seats.items c.push.new.self.items c.loop-ended.arrived.items c.append.new.self.items c.in-Some.ended c.in-Ok.driven
      (search rules) c.in_ok-push.ensures.items (search (rules, c.in_ok-append.ensures)) c.loop-ended.invariant.2,
)
