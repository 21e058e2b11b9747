use Rattle.std.proofs.Common.{arith, ◌≡◌, ℕ, ◌+◌, ◌<◌, ◌++◌, List, [], ◌∷◌, length, map, take, Some, sym, ap, ◌∙◌, subst, refl}
use Rattle.std.specs.Prelude.{slice_get, suc}
use Rattle.std.specs.List.{AllZip}
use Rattle.std.specs.declared.alloc.Global.{Global}
use Rattle.std.specs.declared.vec.Vec.{Vec}
use Rattle.std.proofs.lemmas.List.{map-append, length-map}
use Rattle.std.proofs.lemmas.Option.{get_or_from_slice_get}
use Rattle.sup_posts.specs.Jobs.{Seat, IsSeatOf}
use Rattle.sup_posts.specs.declared.jobs.Drive.{Drive}
use Rattle.sup_posts.specs.declared.jobs.Lane.{Lane}
use Rattle.sup_posts.proofs.ItemLaws.{none_left}
use Rattle.sup_posts.specs.Drives.{IsFresh, IsDriveOf, places, HaveWhole, dealt_in}
use Rattle.sup_run_ends.specs.Steps.{IsRowOf}
use Rattle.sup_run_ends.proofs.DealtPassLaws.{places_at, places_long, drives_long}
use Rattle.sup_run_ends.proofs.RunEndItemLaws.{contained, stands_in, same_place, next_of, long_both, taken_more, take_all}
use Rattle.sup_run_ends.proofs.ZipLaws.{zip_right, zip_taken, zip_same_length}
use Rattle.sup_run_ends.proofs.drives.make_drives.Goals as goal

pub loop-at-init : goal.loop-at-init
loop-at-init g c =
    let none = sym c.new-drives.ensures.items in (
      subst (AllZip (IsDriveOf c.args.plan.now c.args.posts.now) []) none tt,
      ap (map (λ (d : Drive g.row.W.Denot g.W.Weigh). d.at)) c.new-drives.ensures.items,
      subst (λ l. map (λ (d : Drive g.row.W.Denot g.W.Weigh). d.seat) l ++ c.into_iter-seats.result.rest.items ≡ c.into_iter-seats.result.rest.items) none refl,
      subst (λ l. map (λ (d : Drive g.row.W.Denot g.W.Weigh). d.lanes) l ++ c.into_iter-rows.result.rest.items ≡ c.into_iter-rows.result.rest.items) none refl,
    )

pub unreachable-requires : goal.unreachable-requires
unreachable-requires g c = omega (
  arith,
  long_both (map (λ (d : Drive g.row.W.Denot g.W.Weigh). d.seat) c.loop-at.drives.items) c.loop-at.seats.rest.items c.into_iter-seats.result.rest.items c.loop-at.invariant.2,
  length-map c.loop-at.drives.items (λ (d : Drive g.row.W.Denot g.W.Weigh). d.seat),
  drives_long c.loop-at.drives.items c.loop-at.at c.loop-at.invariant.1,
  c.in_default.ensures.cases,
  zip_same_length IsSeatOf c.args.posts.now c.in_ok-seats.seats.items c.in_ok-seats.ensures.seats,
  ap length c.into_iter-seats.ensures.rest,
)

pub unreachable-requires-in_default-next : goal.unreachable-requires-in_default-next
unreachable-requires-in_default-next g c = omega (
  arith,
  long_both (map (λ (d : Drive g.row.W.Denot g.W.Weigh). d.lanes) c.loop-at.drives.items) c.loop-at.rows.rest.items c.into_iter-rows.result.rest.items c.loop-at.invariant.3,
  length-map c.loop-at.drives.items (λ (d : Drive g.row.W.Denot g.W.Weigh). d.lanes),
  drives_long c.loop-at.drives.items c.loop-at.at c.loop-at.invariant.1,
  c.in_default-next.ensures.cases,
  zip_same_length (λ (i : ℕ) (v : Vec (Lane g.row.W.Denot g.W.Weigh) Global). IsRowOf c.args.plan.now c.args.posts.now i v.items) (places (length c.args.posts.now)) c.in_ok-seats.rows.items c.in_ok-seats.ensures.rows,
  places_long (length c.args.posts.now),
  ap length c.into_iter-rows.ensures.rest,
)

pub make_drive-requires-clause-seat : goal.make_drive-requires-clause-seat
make_drive-requires-clause-seat g c = zip_right IsSeatOf c.args.posts.now c.in_ok-seats.seats.items c.loop-at.at c.in-Some.seat c.in_ok-seats.ensures.seats
    (next_of (map (λ (d : Drive g.row.W.Denot g.W.Weigh). d.seat) c.loop-at.drives.items) c.loop-at.seats.rest.items c.in_ok-seats.seats.items c.in-Some.seat c.next.new.self.rest.items c.loop-at.at
    (c.loop-at.invariant.2 ∙ c.into_iter-seats.ensures.rest) c.in-Some.ensures.items (length-map c.loop-at.drives.items (λ (d : Drive g.row.W.Denot g.W.Weigh). d.seat) ∙ drives_long c.loop-at.drives.items c.loop-at.at c.loop-at.invariant.1))

pub make_drive-requires-clause-fresh : goal.make_drive-requires-clause-fresh
make_drive-requires-clause-fresh g c = contained IsFresh c.in_ok-seats.seats.items c.in-Some.seat c.in_ok-seats.ensures.fresh (stands_in c.in_ok-seats.seats.items c.loop-at.at c.in-Some.seat
    (next_of (map (λ (d : Drive g.row.W.Denot g.W.Weigh). d.seat) c.loop-at.drives.items) c.loop-at.seats.rest.items c.in_ok-seats.seats.items c.in-Some.seat c.next.new.self.rest.items c.loop-at.at
    (c.loop-at.invariant.2 ∙ c.into_iter-seats.ensures.rest) c.in-Some.ensures.items (length-map c.loop-at.drives.items (λ (d : Drive g.row.W.Denot g.W.Weigh). d.seat) ∙ drives_long c.loop-at.drives.items c.loop-at.at c.loop-at.invariant.1)))

pub make_drive-requires-clause-lanes : goal.make_drive-requires-clause-lanes
make_drive-requires-clause-lanes g c =
    let at : slice_get c.in_ok-seats.rows.items c.loop-at.at ≡ Some c.in-Some-next.lanes = next_of (map (λ (d : Drive g.row.W.Denot g.W.Weigh). d.lanes) c.loop-at.drives.items) c.loop-at.rows.rest.items c.in_ok-seats.rows.items c.in-Some-next.lanes c.next-in-loop-at.new.self.rest.items c.loop-at.at
    (c.loop-at.invariant.3 ∙ c.into_iter-rows.ensures.rest) c.in-Some-next.ensures.items (length-map c.loop-at.drives.items (λ (d : Drive g.row.W.Denot g.W.Weigh). d.lanes) ∙ drives_long c.loop-at.drives.items c.loop-at.at c.loop-at.invariant.1) in
    let r = zip_right (λ (i : ℕ) (v : Vec (Lane g.row.W.Denot g.W.Weigh) Global). IsRowOf c.args.plan.now c.args.posts.now i v.items) (places (length c.args.posts.now)) c.in_ok-seats.rows.items c.loop-at.at c.in-Some-next.lanes c.in_ok-seats.ensures.rows at in
    subst (λ i. IsRowOf c.args.plan.now c.args.posts.now i c.in-Some-next.lanes.items) (same_place (places (length c.args.posts.now)) c.loop-at.at c.loop-at.at r.0 c.loop-at.at r.1 (places_at (length c.args.posts.now) c.loop-at.at c.loop-at-test.true) refl) r.2

pub loop-at-preserved : goal.loop-at-preserved
loop-at-preserved g c =
    let posts = c.args.posts.now in let at = c.loop-at.at in let put = sym c.in_ok-push.ensures.items in
    let next : suc at ≡ at + 1 = omega arith in
    let p = zip_right IsSeatOf posts c.in_ok-seats.seats.items at c.in-Some.seat c.in_ok-seats.ensures.seats
    (next_of (map (λ (d : Drive g.row.W.Denot g.W.Weigh). d.seat) c.loop-at.drives.items) c.loop-at.seats.rest.items c.in_ok-seats.seats.items c.in-Some.seat c.next.new.self.rest.items c.loop-at.at
    (c.loop-at.invariant.2 ∙ c.into_iter-seats.ensures.rest) c.in-Some.ensures.items (length-map c.loop-at.drives.items (λ (d : Drive g.row.W.Denot g.W.Weigh). d.seat) ∙ drives_long c.loop-at.drives.items c.loop-at.at c.loop-at.invariant.1)) in (
      subst (AllZip (IsDriveOf c.args.plan.now posts) (take (at + 1) posts)) put
          (zip_taken (IsDriveOf c.args.plan.now posts) posts at p.0 c.loop-at.drives.items c.in_ok-drive.drive c.loop-at-test.true (sym (get_or_from_slice_get posts at p.0 p.0 p.1)) c.loop-at.invariant.0 (c.in_ok-drive.ensures.drive p.0 p.1)),
      ap (map (λ (d : Drive g.row.W.Denot g.W.Weigh). d.at)) c.in_ok-push.ensures.items ∙ map-append (λ (d : Drive g.row.W.Denot g.W.Weigh). d.at) c.loop-at.drives.items (c.in_ok-drive.drive ∷ [])
          ∙ (λ i. c.loop-at.invariant.1 i ++ c.in_ok-drive.ensures.at i ∷ []) ∙ ap places next,
      taken_more (λ (d : Drive g.row.W.Denot g.W.Weigh). d.seat) c.loop-at.drives.items c.push.new.self.items c.in_ok-drive.drive c.loop-at.seats.rest.items c.next.new.self.rest.items c.into_iter-seats.result.rest.items c.in-Some.seat
          c.in_ok-push.ensures.items c.in_ok-drive.ensures.seat c.in-Some.ensures.items c.loop-at.invariant.2,
      taken_more (λ (d : Drive g.row.W.Denot g.W.Weigh). d.lanes) c.loop-at.drives.items c.push.new.self.items c.in_ok-drive.drive c.loop-at.rows.rest.items c.next-in-loop-at.new.self.rest.items c.into_iter-rows.result.rest.items c.in-Some-next.lanes
          c.in_ok-push.ensures.items c.in_ok-drive.ensures.lanes c.in-Some-next.ensures.items c.loop-at.invariant.3,
    )

pub returns-clause-drives : goal.returns-clause-drives
returns-clause-drives g c =
    let all : c.loop-at.at ≡ length c.args.posts.now = omega arith in
    subst (λ l. AllZip (IsDriveOf c.args.plan.now c.args.posts.now) l c.loop-at.drives.items) (ap (λ n. take n c.args.posts.now) all ∙ take_all c.args.posts.now) c.loop-at.invariant.0

pub returns-clause-places : goal.returns-clause-places
returns-clause-places g c =
    let all : c.loop-at.at ≡ length c.args.posts.now = omega arith in
    c.loop-at.invariant.1 ∙ ap places all

pub returns-clause-whole : goal.returns-clause-whole
returns-clause-whole g c =
    let all : c.loop-at.at ≡ length c.args.posts.now = omega arith in
    let made = drives_long c.loop-at.drives.items c.loop-at.at c.loop-at.invariant.1 in
    let seats = c.loop-at.invariant.2 ∙ c.into_iter-seats.ensures.rest in let rows = c.loop-at.invariant.3 ∙ c.into_iter-rows.ensures.rest in
    let no_seat : length c.loop-at.seats.rest.items ≡ 0 = omega (
      arith,
      all,
      made,
      length-map c.loop-at.drives.items (λ (d : Drive g.row.W.Denot g.W.Weigh). d.seat),
      long_both (map (λ (d : Drive g.row.W.Denot g.W.Weigh). d.seat) c.loop-at.drives.items) c.loop-at.seats.rest.items c.in_ok-seats.seats.items seats,
      zip_same_length IsSeatOf c.args.posts.now c.in_ok-seats.seats.items c.in_ok-seats.ensures.seats,
    ) in
    let no_row : length c.loop-at.rows.rest.items ≡ 0 = omega (
      arith,
      all,
      made,
      length-map c.loop-at.drives.items (λ (d : Drive g.row.W.Denot g.W.Weigh). d.lanes),
      long_both (map (λ (d : Drive g.row.W.Denot g.W.Weigh). d.lanes) c.loop-at.drives.items) c.loop-at.rows.rest.items c.in_ok-seats.rows.items rows,
      zip_same_length (λ (i : ℕ) (v : Vec (Lane g.row.W.Denot g.W.Weigh) Global). IsRowOf c.args.plan.now c.args.posts.now i v.items) (places (length c.args.posts.now)) c.in_ok-seats.rows.items c.in_ok-seats.ensures.rows,
      places_long (length c.args.posts.now),
    ) in
    subst (λ (p : List (Seat g.row.W.Denot g.W.Weigh) × List (Vec (Lane g.row.W.Denot g.W.Weigh) Global)). HaveWhole p.0 (dealt_in p.1))
    (λ i. (
      sym (none_left (map (λ (d : Drive g.row.W.Denot g.W.Weigh). d.seat) c.loop-at.drives.items) c.loop-at.seats.rest.items c.in_ok-seats.seats.items no_seat seats) i,
      sym (none_left (map (λ (d : Drive g.row.W.Denot g.W.Weigh). d.lanes) c.loop-at.drives.items) c.loop-at.rows.rest.items c.in_ok-seats.rows.items no_row rows) i,
    )) c.in_ok-seats.ensures.whole
