use Rattle.std.proofs.Common.{arith, ◌≡◌, ℕ, ◌+◌, ◌++◌, List, [], ◌∷◌, length, All, sym, ◌∙◌, subst}
use Rattle.std.specs.Prelude.{suc}
use Rattle.std.specs.List.{AllZip}
use Rattle.std.specs.declared.alloc.Global.{Global}
use Rattle.std.specs.declared.vec.Vec.{Vec}
use Rattle.std.proofs.lemmas.Slice.Zip.{all_zipped_more}
use Rattle.std.proofs.lemmas.Option.{get_or_from_slice_get}
use Rattle.sup_posts.specs.Jobs.{Seat, IsSeatAt}
use Rattle.sup_posts.specs.declared.shared_node.SharedNode.{SharedNode}
use Rattle.sup_posts.specs.declared.jobs.Lane.{Lane}
use Rattle.sup_posts.proofs.ItemLaws.{all_weaken}
use Rattle.sup_posts.specs.Drives.{IsFresh, LeadsToItsNode, places, HaveWhole, dealt_in, of_lane}
use Rattle.sup_run_ends.specs.Passes.{IsFirst}
use Rattle.sup_run_ends.specs.Steps.{IsRowOf}
use Rattle.sup_run_ends.proofs.DealtPassLaws.{kept_fresh, whole_more, ends_same, first_whole_each}
use Rattle.sup_run_ends.proofs.RunEndItemLaws.{all_unmap}
use Rattle.sup_run_ends.proofs.drives.deal.Goals as goal

pub loop-at-init : goal.loop-at-init
loop-at-init g c =
    let none = sym c.new-rows.ensures.items in (
      c.requires.seats,
      all_weaken IsFirst IsFresh (λ s f. f.fresh) c.args.seats.items c.requires.first,
      subst (AllZip (λ (at : ℕ) (lanes : Vec (Lane g.row.W.Denot g.W.Weigh) Global). IsRowOf c.args.plan.now c.args.posts.now at lanes.items) []) none tt,
      subst (λ l. HaveWhole c.args.seats.items (dealt_in l)) none (first_whole_each c.args.seats.items c.requires.first),
    )

pub make_lanes-requires : goal.make_lanes-requires
make_lanes-requires g c = all_weaken (λ (d : ℕ × Seat g.row.W.Denot g.W.Weigh). IsSeatAt c.args.posts.now d.0 d.1 × IsFresh d.1) (λ (d : ℕ × Seat g.row.W.Denot g.W.Weigh). IsSeatAt c.args.posts.now d.0 d.1)
    (λ d x. x.0) c.in_ok-kept.row.items c.in_ok-kept.ensures.row

pub loop-at-preserved : goal.loop-at-preserved
loop-at-preserved g c =
    let posts = c.args.posts.now in let at = c.loop-at.at in
    let row = c.in_ok-kept.row.items in let lanes = c.in_ok-lanes.lanes in
    let put = sym c.in_ok-push.ensures.items in
    let next : suc at ≡ at + 1 = omega arith in
    let fresh : All (λ (l : Lane g.row.W.Denot g.W.Weigh). IsFresh l.seat) lanes.items
    = all_unmap (λ (d : ℕ × Seat g.row.W.Denot g.W.Weigh). IsFresh d.1) of_lane lanes.items
    (subst (All (λ (d : ℕ × Seat g.row.W.Denot g.W.Weigh). IsFresh d.1)) (sym c.in_ok-lanes.ensures.passes)
    (all_weaken (λ (d : ℕ × Seat g.row.W.Denot g.W.Weigh). IsSeatAt posts d.0 d.1 × IsFresh d.1) (λ (d : ℕ × Seat g.row.W.Denot g.W.Weigh). IsFresh d.1) (λ d x. x.1) row c.in_ok-kept.ensures.row)) in
    let here : IsRowOf c.args.plan.now posts at lanes.items = record {
      lanes_are = c.in_ok-lanes.ensures.lanes;
      lead = λ post e. subst (λ (p : SharedNode g.row.W.Denot g.W.Weigh). All (LeadsToItsNode c.args.plan.now.scripts.items p.name posts) lanes.items) (get_or_from_slice_get posts at post _ e) c.in_ok-lanes.ensures.to;
      only = ends_same lanes.items row c.in_ok-lanes.ensures.passes ∙ c.in_ok-kept.ensures.ends;
      fresh = fresh;
    } in (
      c.in_ok-kept.ensures.kept,
      kept_fresh posts c.loop-at.seats.items c.in_ok-kept.kept.items row c.loop-at.invariant.0 c.in_ok-kept.ensures.kept c.in_ok-kept.ensures.cut c.loop-at.invariant.1,
      subst (λ (p : ℕ × List (Vec (Lane g.row.W.Denot g.W.Weigh) Global)). AllZip (λ (i : ℕ) (v : Vec (Lane g.row.W.Denot g.W.Weigh) Global). IsRowOf c.args.plan.now posts i v.items) (places p.0) p.1) (λ i. (next i, put i))
          (all_zipped_more (λ (i : ℕ) (v : Vec (Lane g.row.W.Denot g.W.Weigh) Global). IsRowOf c.args.plan.now posts i v.items) (places at) c.loop-at.rows.items at lanes c.loop-at.invariant.2 here),
      subst (λ l. HaveWhole c.in_ok-kept.kept.items (dealt_in l)) put
          (whole_more posts c.loop-at.seats.items c.in_ok-kept.kept.items row c.loop-at.invariant.0 c.in_ok-kept.ensures.kept c.in_ok-kept.ensures.cut c.loop-at.rows.items lanes c.in_ok-lanes.ensures.passes c.loop-at.invariant.3),
    )

pub returns-clause-rows : goal.returns-clause-rows
returns-clause-rows g c =
    let all : c.loop-at.at ≡ length c.args.posts.now = omega arith in
    subst (λ n. AllZip (λ (i : ℕ) (v : Vec (Lane g.row.W.Denot g.W.Weigh) Global). IsRowOf c.args.plan.now c.args.posts.now i v.items) (places n) c.loop-at.rows.items) all c.loop-at.invariant.2
