use Rattle.std.proofs.Common.{arith, ◌≡◌, ◌≤◌, ◌+◌, ℕ, ◌++◌, List, [], ◌∷◌, length, map, All, ap, sym, ◌∙◌, subst, append_assoc, refl}
use Rattle.std.specs.Prelude.{◌⊎◌, Contains}
use Rattle.std.specs.List.{AllZip}
use Rattle.std.proofs.lemmas.Slice.Zip.{all_zipped_more}
use Rattle.sup_posts.specs.Jobs.{Seat, IsSeatOf}
use Rattle.sup_posts.specs.declared.jobs.Arrived.{Arrived}
use Rattle.std.proofs.lemmas.Option.{none-some}
use Rattle.sup_posts.specs.Drives.{passes_to}
use Rattle.sup_run_ends.specs.Passes.{of_arrived, IsMadeBy, AreMadeBy}
use Rattle.sup_run_ends.specs.Steps.{IsArrived, IsHistoryOf, BeginsWithSeen, EndsHistory}
use Rattle.sup_run_ends.proofs.ZipLaws.{zip_same_length}
use Rattle.sup_posts.proofs.ItemLaws.{none_left}
use Rattle.sup_posts.proofs.ItemLaws.{all_weaken}
use Rattle.sup_run_ends.proofs.CloseLaws.{of_next, others_are, others_later, ends_more, ends_all, own_more, each_left, longer, longer_than}
use Rattle.sup_run_ends.proofs.PlacedPassLaws.{passes_left}
use Rattle.sup_run_ends.proofs.closing.close_all.Goals as goal

pub loop-post-init : goal.loop-post-init
loop-post-init g c =
    let none = sym c.new-histories.ensures.items in
    let gives = sym c.into_iter-post-iterator.ensures.into_iter_gives.0 in (
      refl,
      subst (λ l. AllZip IsSeatOf l c.into_iter-seats.result.rest.items) gives (subst (AllZip IsSeatOf c.args.posts.items) (sym c.into_iter-seats.ensures.rest) c.requires.seats),
      subst (AllZip (IsHistoryOf {W = g.row.W.Denot} {h = g.W.Weigh} g.W.Weigh.weight_of) []) none tt,
      ([], refl, subst (AllZip (BeginsWithSeen {W = g.row.W.Denot} {h = g.W.Weigh}) []) none tt, λ j s k e f. absurd (none-some s e)),
      subst (λ l. All (IsArrived l) c.args.arrived.items) gives c.requires.arrived,
      subst (λ l. All (λ (a : Arrived g.row.W.Denot g.W.Weigh). length l ≤ a.to) c.args.arrived.items) none (λ k d lt. omega arith),
      each_left c.new-histories.result.items c.args.arrived.items,
      λ j le. refl,
    )

pub unreachable-requires : goal.unreachable-requires
unreachable-requires g c = omega (
  arith,
  c.in_default.ensures.cases,
  zip_same_length IsSeatOf (c.in-Some.post ∷ c.next.new.self.rest.items) c.loop-post.seats.rest.items (subst (λ l. AllZip IsSeatOf l c.loop-post.seats.rest.items) c.in-Some.ensures.steps.0 c.loop-post.invariant.1),
)

pub close_at-requires-clause-arrived : goal.close_at-requires-clause-arrived
close_at-requires-clause-arrived g c =
    of_next c.into_iter-post-iterator.result.rest.items c.loop-post.yielded c.next.new.self.rest.items c.in-Some.post c.len.result c.loop-post.arrived.items
    (ap (λ l. c.loop-post.yielded ++ l) (sym c.in-Some.ensures.steps.0) ∙ c.loop-post.invariant.0)
    (omega (arith, c.len.ensures, c.loop-post.histories.ok.0, zip_same_length (IsHistoryOf g.W.Weigh.weight_of) c.loop-post.yielded c.loop-post.histories.items c.loop-post.invariant.2))
    c.loop-post.invariant.4

pub loop-post-preserved : goal.loop-post-preserved
loop-post-preserved g c =
    let put = sym c.in-Ok.ensures.items in
    let at : c.len.result ≡ length c.loop-post.histories.items = omega (arith, c.len.ensures, c.loop-post.histories.ok.0) in
    let z = subst (λ l. AllZip IsSeatOf l (c.in-Some-next.seat ∷ c.next-in-loop-post.new.self.rest.items)) c.in-Some.ensures.steps.0
    (subst (AllZip IsSeatOf c.loop-post.post-iterator.rest.items) c.in-Some-next.ensures.items c.loop-post.invariant.1) in (
      append_assoc c.loop-post.yielded (c.in-Some.post ∷ []) c.next.new.self.rest.items ∙ (ap (λ l. c.loop-post.yielded ++ l) (sym c.in-Some.ensures.steps.0) ∙ c.loop-post.invariant.0),
      z.1,
      subst (AllZip (IsHistoryOf g.W.Weigh.weight_of) (c.loop-post.yielded ++ c.in-Some.post ∷ [])) put
          (all_zipped_more (IsHistoryOf g.W.Weigh.weight_of) c.loop-post.yielded c.loop-post.histories.items c.in-Some.post c.in_ok-history.history c.loop-post.invariant.2 c.in_ok-history.ensures.history),
      subst (λ l. (x : List (Seat g.row.W.Denot g.W.Weigh)) × (x ++ c.next-in-loop-post.new.self.rest.items ≡ c.into_iter-seats.result.rest.items) × AllZip BeginsWithSeen x l × AreMadeBy x c.args.arrived.items l) put
          (own_more c.len.result c.loop-post.invariant.3.0 c.in-Some-next.seat c.loop-post.seats.rest.items c.next-in-loop-post.new.self.rest.items c.into_iter-seats.result.rest.items c.loop-post.histories.items c.in_ok-history.history
          c.in-Some-next.ensures.items c.loop-post.invariant.3.1 c.loop-post.invariant.3.2 c.in_ok-history.ensures.own c.args.arrived.items at
          (subst (λ (l : List (Seat g.row.W.Denot g.W.Weigh)). IsMadeBy c.in-Some-next.seat l c.in_ok-history.history) (c.loop-post.invariant.7 c.len.result (omega (arith, at))) c.in_ok-history.ensures.made) c.loop-post.invariant.3.3),
      others_are (IsArrived c.into_iter-post-iterator.result.rest.items) c.len.result c.loop-post.arrived.items c.in_ok-history.others.items c.in_ok-history.ensures.others c.loop-post.invariant.4,
      subst (λ l. All (λ (a : Arrived g.row.W.Denot g.W.Weigh). length l ≤ a.to) c.in_ok-history.others.items) put
          (all_weaken (λ (a : Arrived g.row.W.Denot g.W.Weigh). c.len.result + 1 ≤ a.to) (λ (a : Arrived g.row.W.Denot g.W.Weigh). length (c.loop-post.histories.items ++ c.in_ok-history.history ∷ []) ≤ a.to)
          (λ a le. longer c.loop-post.histories.items c.in_ok-history.history c.len.result a.to at le) c.in_ok-history.others.items
          (others_later c.len.result c.loop-post.arrived.items c.in_ok-history.others.items c.in_ok-history.ensures.others
          (subst (λ n. All (λ (a : Arrived g.row.W.Denot g.W.Weigh). n ≤ a.to) c.loop-post.arrived.items) (sym at) c.loop-post.invariant.5))),
      subst (λ l. All (λ (a : Arrived g.row.W.Denot g.W.Weigh). EndsHistory l a ⊎ Contains c.in_ok-history.others.items a) c.args.arrived.items) put
          (ends_more c.loop-post.histories.items c.in_ok-history.history c.len.result c.loop-post.arrived.items c.in_ok-history.others.items c.args.arrived.items at c.in_ok-history.ensures.others c.in_ok-history.ensures.here c.loop-post.invariant.6),
      subst (λ l. (j : ℕ) → length l ≤ j → passes_to j (map of_arrived c.in_ok-history.others.items) ≡ passes_to j (map of_arrived c.args.arrived.items)) put
          (λ j le. let past = longer_than c.loop-post.histories.items c.in_ok-history.history j le in
          ap (λ l. passes_to j (map of_arrived l)) c.in_ok-history.ensures.others ∙ passes_left j c.len.result c.loop-post.arrived.items (λ e. omega (arith, past, e, at))
          ∙ c.loop-post.invariant.7 j (omega (arith, past))),
    )

pub returns-clause-histories : goal.returns-clause-histories
returns-clause-histories g c = subst (λ l. AllZip (IsHistoryOf g.W.Weigh.weight_of) l c.loop-post.histories.items)
    (none_left c.loop-post.yielded c.loop-post.post-iterator.rest.items c.args.posts.items (sym c.loop-post.post-iterator.rest.ok.0 ∙ c.in-None.ensures.steps.0) (c.loop-post.invariant.0 ∙ c.into_iter-post-iterator.ensures.into_iter_gives.0))
    c.loop-post.invariant.2

pub returns-clause-own : goal.returns-clause-own
returns-clause-own g c =
    let none : length c.loop-post.post-iterator.rest.items ≡ 0 = sym c.loop-post.post-iterator.rest.ok.0 ∙ c.in-None.ensures.steps.0 in
    let long = zip_same_length IsSeatOf c.loop-post.post-iterator.rest.items c.loop-post.seats.rest.items c.loop-post.invariant.1 in
    subst (λ l. AllZip BeginsWithSeen l c.loop-post.histories.items)
    (none_left c.loop-post.invariant.3.0 c.loop-post.seats.rest.items c.args.seats.items (sym long ∙ none) (c.loop-post.invariant.3.1 ∙ c.into_iter-seats.ensures.rest))
    c.loop-post.invariant.3.2

pub returns-clause-others : goal.returns-clause-others
returns-clause-others g c =
    let none : length c.loop-post.post-iterator.rest.items ≡ 0 = sym c.loop-post.post-iterator.rest.ok.0 ∙ c.in-None.ensures.steps.0 in
    ends_all c.into_iter-post-iterator.result.rest.items c.loop-post.histories.items c.loop-post.arrived.items c.args.arrived.items
    (ap length (sym (none_left c.loop-post.yielded c.loop-post.post-iterator.rest.items c.into_iter-post-iterator.result.rest.items none c.loop-post.invariant.0))
    ∙ zip_same_length (IsHistoryOf g.W.Weigh.weight_of) c.loop-post.yielded c.loop-post.histories.items c.loop-post.invariant.2)
    c.loop-post.invariant.4 c.loop-post.invariant.5 c.loop-post.invariant.6

pub returns-clause-made : goal.returns-clause-made
returns-clause-made g c =
    let none : length c.loop-post.post-iterator.rest.items ≡ 0 = sym c.loop-post.post-iterator.rest.ok.0 ∙ c.in-None.ensures.steps.0 in
    let long = zip_same_length IsSeatOf c.loop-post.post-iterator.rest.items c.loop-post.seats.rest.items c.loop-post.invariant.1 in
    subst (λ (l : List (Seat g.row.W.Denot g.W.Weigh)). AreMadeBy l c.args.arrived.items c.loop-post.histories.items)
    (none_left c.loop-post.invariant.3.0 c.loop-post.seats.rest.items c.args.seats.items (sym long ∙ none) (c.loop-post.invariant.3.1 ∙ c.into_iter-seats.ensures.rest))
    c.loop-post.invariant.3.3
