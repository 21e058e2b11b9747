use Rattle.std.proofs.Common.{◌++◌, List, map, ap, sym, ◌∙◌, subst}
use mathlib.Core.Option.{some}
use Rattle.sup_node_gate.specs.Gates.{view_of}
use Rattle.sup_node_gate.specs.Shares.{IsWhole}
use Rattle.sup_node_gate.specs.Shuffles.{IsShuffleOf}
use Rattle.sup_node_gate.specs.Views.{calls_of}
use Rattle.sup_node_gate.proofs.HistoryListLaws.{prefix_trans}
use Rattle.sup_posts.specs.declared.jobs.Arrived.{Arrived}
use Rattle.sup_posts.specs.Jobs.{Seat, IsSeatOf}
use Rattle.sup_posts.specs.Drives.{shares_of}
use Rattle.sup_run_ends.specs.Passes.{calls_by}
use Rattle.sup_run_ends.specs.Steps.{BeginsWithSeen}
use Rattle.sup_run_ends.proofs.PlacedPassLaws.{passes_arrived}
use Rattle.sup_run_ends.proofs.ReturnedPassLaws.{here_all, here_back, begins_all}
use Rattle.sup_run_ends.proofs.closing.close_at.Goals as goal

pub join_all-seat-requires-clause-others : goal.join_all-seat-requires-clause-others
join_all-seat-requires-clause-others g c = here_all (λ (a : Arrived g.row.W.Denot g.W.Weigh). IsSeatOf c.args.post a.seat) c.args.at c.args.arrived.items c.in_ok-here.here.items c.in_ok-here.ensures.here c.requires.arrived

pub returns-clause-own : goal.returns-clause-own
returns-clause-own g c = prefix_trans (view_of c.args.seat).seen (view_of c.join_all-seat.result).seen c.in_ok-history.history.entries.items c.join_all-seat.ensures.own c.in_ok-history.ensures.begins

pub returns-clause-here : goal.returns-clause-here
returns-clause-here g c =
    here_back (λ (a : Arrived g.row.W.Denot g.W.Weigh). BeginsWithSeen a.seat c.in_ok-history.history) c.args.at c.args.arrived.items c.in_ok-here.here.items c.in_ok-here.ensures.here
    (begins_all c.join_all-seat.result c.in_ok-history.history c.in_ok-here.here.items c.in_ok-history.ensures.begins c.join_all-seat.ensures.others)

pub returns-clause-made : goal.returns-clause-made
returns-clause-made g c = λ whole.
    let v = view_of c.args.seat in
    let here = passes_arrived c.args.at c.args.arrived.items ∙ ap (map (λ (a : Arrived g.row.W.Denot g.W.Weigh). a.seat)) (sym c.in_ok-here.ensures.here) in
    let all = subst (λ (l : List (Seat g.row.W.Denot g.W.Weigh)). IsWhole (v.shares ++ shares_of l)) here whole in
    let calls = c.in_ok-history.ensures.sole (subst IsWhole (sym c.join_all-seat.ensures.shares) all) in
    subst (λ (l : List (Seat g.row.W.Denot g.W.Weigh)). IsShuffleOf (calls_of v) (calls_by l) (map some c.in_ok-history.history.entries.items)) (sym here)
    (subst (IsShuffleOf (calls_of v) (calls_by (map (λ (a : Arrived g.row.W.Denot g.W.Weigh). a.seat) c.in_ok-here.here.items))) calls c.join_all-seat.ensures.calls)
