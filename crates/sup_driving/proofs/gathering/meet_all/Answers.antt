use Rattle.std.proofs.Common.{rules, ◌≡◌, ◌++◌, [], ◌∷◌, length, Ok, ap, sym, ◌∙◌, append_assoc, subst}
use Rattle.std.specs.Prelude.{IsOk}
use Rattle.std.specs.List.{AllZip}
use Rattle.std.proofs.lemmas.List.Elements.{All-rest}
use Rattle.sup_driving.specs.GatheredResults.{CanMeet, MetEnds, AllMet}
use Rattle.sup_posts.proofs.ItemLaws.{none_left}
use Rattle.sup_driving.proofs.LinkEndLaws.{met_more, none_paired}
use Rattle.sup_driving.proofs.gathering.meet_all.Goals as goal

pub meet-pass-requires : goal.meet-pass-requires
meet-pass-requires g c =
    let both = subst (λ l. AllZip CanMeet l (c.in-Some.end ∷ c.next.new.self.rest.items)) c.in-Some-next.ensures.items
    (subst (AllZip CanMeet c.loop-end.sent.rest.items) c.in-Some.ensures.steps.0 c.loop-end.invariant.1) in
    let is : c.in-Some.end ≡ Ok c.in-Ok.received = search rules in
    subst (CanMeet c.in-Some-next.sent) is both.0

pub loop-end-preserved : goal.loop-end-preserved
loop-end-preserved g c =
    let both = subst (λ l. AllZip CanMeet l (c.in-Some.end ∷ c.next.new.self.rest.items)) c.in-Some-next.ensures.items
    (subst (AllZip CanMeet c.loop-end.sent.rest.items) c.in-Some.ensures.steps.0 c.loop-end.invariant.1) in
    let is : c.in-Some.end ≡ Ok c.in-Ok.received = search rules in (
      append_assoc c.loop-end.yielded (c.in-Some.end ∷ []) c.next.new.self.rest.items ∙ (ap (λ l. c.loop-end.yielded ++ l) (sym c.in-Some.ensures.steps.0) ∙ c.loop-end.invariant.0),
      both.1,
      All-rest IsOk c.in-Some.end _ _ (search rules) c.loop-end.invariant.2,
      (
        c.loop-end.invariant.3.0 ++ c.in-Some-next.sent ∷ [],
        append_assoc c.loop-end.invariant.3.0 (c.in-Some-next.sent ∷ []) c.next-in-loop-end.new.self.rest.items
            ∙ (ap (λ l. c.loop-end.invariant.3.0 ++ l) (sym c.in-Some-next.ensures.items) ∙ c.loop-end.invariant.3.1),
        subst (AllMet (c.loop-end.invariant.3.0 ++ c.in-Some-next.sent ∷ []) (c.loop-end.yielded ++ c.in-Some.end ∷ [])) (sym c.in_ok-push.ensures.items)
            (met_more c.loop-end.invariant.3.0 c.loop-end.yielded c.loop-end.arrived.items c.in-Some-next.sent c.in-Some.end c.meet-pass.result c.loop-end.invariant.3.2
            (subst (λ r. MetEnds c.in-Some-next.sent r c.meet-pass.result) (sym is) c.meet-pass.ensures)),
      ),
    )

pub returns : goal.returns
returns g c =
    let none : length c.loop-end.end-iterator.rest.items ≡ 0 = sym c.loop-end.end-iterator.rest.ok.0 ∙ c.in-None.ensures.steps.0 in
    subst (λ l. AllMet l c.args.received.items c.loop-end.arrived.items)
    (none_left c.loop-end.invariant.3.0 c.loop-end.sent.rest.items c.args.sent.items (none_paired CanMeet c.loop-end.sent.rest.items c.loop-end.end-iterator.rest.items c.loop-end.invariant.1 none) (c.loop-end.invariant.3.1 ∙ c.into_iter-sent.ensures.rest))
    (subst (λ l. AllMet c.loop-end.invariant.3.0 l c.loop-end.arrived.items)
    (none_left c.loop-end.yielded c.loop-end.end-iterator.rest.items c.args.received.items none (c.loop-end.invariant.0 ∙ c.into_iter-end-iterator.ensures.into_iter_gives.0))
    c.loop-end.invariant.3.2)
