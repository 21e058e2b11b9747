use Rattle.std.proofs.Common.{rules, ◌==◌, ◌++◌, [], ◌∷◌, ap, sym, ◌∙◌, append_assoc}
use Rattle.std.specs.Prelude.{not}
use Rattle.std.proofs.lemmas.Bool.{not_from_false, not_from_true}
use Rattle.sup_posts.specs.declared.jobs.Arrived.{Arrived}
use Rattle.sup_run_ends.proofs.RunEndItemLaws.{filter_in, filter_out}
use Rattle.sup_run_ends.proofs.ReturnedPassLaws.{is_same, isnt_same}
use Rattle.sup_run_ends.proofs.joining.separate.Goals as goal

pub loop-pass-preserved-in-Continue-1 : goal.loop-pass-preserved-in-Continue-1
loop-pass-preserved-in-Continue-1 g c =
    let t = is_same c.in-Some.pass.to c.args.at c.if-pass-at.true in (
      append_assoc c.loop-pass.yielded (c.in-Some.pass ∷ []) c.next.new.self.rest.items ∙ (ap (λ l. c.loop-pass.yielded ++ l) (sym (search rules)) ∙ c.loop-pass.invariant.0),
      filter_in (λ (a : Arrived g.row.W.Denot g.W.Weigh). a.to == c.args.at) c.loop-pass.yielded c.in-Some.pass c.loop-pass.here.items c.push.new.self.items t c.loop-pass.invariant.1 c.in_ok-push.ensures.items,
      filter_out (λ (a : Arrived g.row.W.Denot g.W.Weigh). not (a.to == c.args.at)) c.loop-pass.yielded c.in-Some.pass c.loop-pass.others.items (not_from_true _ t) c.loop-pass.invariant.2,
    )

pub loop-pass-preserved : goal.loop-pass-preserved
loop-pass-preserved g c =
    let t = isnt_same c.in-Some.pass.to c.args.at c.if-pass-at.false in (
      append_assoc c.loop-pass.yielded (c.in-Some.pass ∷ []) c.next.new.self.rest.items ∙ (ap (λ l. c.loop-pass.yielded ++ l) (sym (search rules)) ∙ c.loop-pass.invariant.0),
      filter_out (λ (a : Arrived g.row.W.Denot g.W.Weigh). a.to == c.args.at) c.loop-pass.yielded c.in-Some.pass c.loop-pass.here.items t c.loop-pass.invariant.1,
      filter_in (λ (a : Arrived g.row.W.Denot g.W.Weigh). not (a.to == c.args.at)) c.loop-pass.yielded c.in-Some.pass c.loop-pass.others.items c.push-else-pass-at.new.self.items (not_from_false _ t) c.loop-pass.invariant.2 c.in_ok-push-2.ensures.items,
    )
