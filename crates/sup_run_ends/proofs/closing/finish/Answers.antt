use Rattle.std.proofs.Common.{subst, sym, List, All, ◌∙◌}
use Rattle.std.specs.List.{AllZip}
use Rattle.sup_posts.specs.Jobs.{Seat}
use Rattle.sup_posts.specs.declared.jobs.Arrived.{Arrived}
use Rattle.sup_posts.specs.declared.jobs.Driven.{Driven}
use Rattle.sup_run_ends.specs.Passes.{AreMadeBy}
use Rattle.sup_run_ends.specs.Steps.{AreFinished, BeginsWithSeen, EndsHistory}
use Rattle.sup_run_ends.proofs.ReturnedPassLaws.{seats_taken, arrived_taken}
use Rattle.sup_run_ends.proofs.ZipLaws.{zip_map_left}
use Rattle.sup_run_ends.proofs.FaultlessLaws.{want_of_none}
use Rattle.sup_run_ends.proofs.closing.finish.Goals as goal

pub close_all-requires-clause-seats : goal.close_all-requires-clause-seats
close_all-requires-clause-seats g c = seats_taken c.args.posts.items c.args.results.items c.in_ok-seats.seats.items c.in_ok-seats.arrived.items c.requires c.in_ok-seats.ensures.parts

pub close_all-requires-clause-arrived : goal.close_all-requires-clause-arrived
close_all-requires-clause-arrived g c = arrived_taken c.args.posts.items c.args.results.items c.in_ok-seats.seats.items c.in_ok-seats.arrived.items c.requires c.in_ok-seats.ensures.parts

pub returns-clause-histories : goal.returns-clause-histories
returns-clause-histories g c =
    let t = c.in_ok-seats.ensures.parts in
    subst (AreFinished g.W.Weigh.weight_of c.args.posts.items c.args.results.items) (sym c.new.ensures) (record {
      driven = t.driven;
      given = t.all;
      histories = c.in_ok-histories.ensures.histories;
      own = zip_map_left BeginsWithSeen (λ (d : Driven g.row.W.Denot g.W.Weigh). d.seat) t.driven c.in_ok-histories.histories.items (subst (λ l. AllZip BeginsWithSeen l c.in_ok-histories.histories.items) t.own c.in_ok-histories.ensures.own);
      others = subst (All (EndsHistory c.in_ok-histories.histories.items)) t.others c.in_ok-histories.ensures.others;
      made = subst (λ (p : List (Seat g.row.W.Denot g.W.Weigh) × List (Arrived g.row.W.Denot g.W.Weigh)). AreMadeBy p.0 p.1 c.in_ok-histories.histories.items) (λ i. (t.own i, t.others i)) c.in_ok-histories.ensures.made;
    })

pub returns-in_err-histories-clause-fault : goal.returns-in_err-histories-clause-fault
returns-in_err-histories-clause-fault g c =
    want_of_none c.args.results.items c.in_ok-seats.ensures.parts.driven c.in_ok-seats.ensures.parts.all c.from_residual-in_err-histories.result _ c.from_residual-in_err-histories.ensures.1
    (λ f e. e ∙ c.in_err-histories.ensures.fault)
