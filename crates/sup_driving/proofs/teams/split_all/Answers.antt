use Rattle.std.proofs.Common.{rules, ◌++◌, [], ◌∷◌, All, ap, sym, ◌∙◌, append_assoc, subst, refl}
use Rattle.std.specs.List.{AllZip}
use Rattle.std.proofs.lemmas.List.Elements.{All-rest}
use Rattle.std.proofs.lemmas.Slice.Zip.{all_zipped_more}
use Rattle.sup_posts.specs.Jobs.{MayTakeDrive}
use Rattle.sup_driving.specs.Teams.{IsTeamOf, IsReady}
use Rattle.sup_posts.proofs.ItemLaws.{all_none, all_snoc}
use Rattle.sup_driving.proofs.ItemPlaceLaws.{first_of}
use Rattle.sup_driving.proofs.teams.split_all.Goals as goal

pub loop-drive-init : goal.loop-drive-init
loop-drive-init g c = (
  refl,
  subst (All (MayTakeDrive c.args.posts.now)) (sym c.into_iter-drive-iterator.ensures.into_iter_gives.0) c.requires,
  subst (AllZip (IsTeamOf c.args.posts.now) []) (sym c.in_ok-teams.ensures.items) tt,
  subst (All (IsReady c.args.posts.now)) (sym c.in_ok-teams.ensures.items) (all_none (IsReady c.args.posts.now)),
)

pub split-requires : goal.split-requires
split-requires g c = first_of (MayTakeDrive c.args.posts.now) c.in-Some.drive c.next.new.self.rest.items (subst (All (MayTakeDrive c.args.posts.now)) c.in-Some.ensures.steps.0 c.loop-drive.invariant.1)

pub loop-drive-preserved : goal.loop-drive-preserved
loop-drive-preserved g c = (
  append_assoc c.loop-drive.yielded (c.in-Some.drive ∷ []) c.next.new.self.rest.items ∙ (ap (λ l. c.loop-drive.yielded ++ l) (sym c.in-Some.ensures.steps.0) ∙ c.loop-drive.invariant.0),
  All-rest (MayTakeDrive c.args.posts.now) c.in-Some.drive _ _ (search rules) c.loop-drive.invariant.1,
  subst (AllZip (IsTeamOf c.args.posts.now) (c.loop-drive.yielded ++ c.in-Some.drive ∷ [])) (sym c.in_ok-push.ensures.items)
      (all_zipped_more (IsTeamOf c.args.posts.now) c.loop-drive.yielded c.loop-drive.teams.items c.in-Some.drive c.in_ok-team.team c.loop-drive.invariant.2 c.in_ok-team.ensures.team),
  subst (All (IsReady c.args.posts.now)) (sym c.in_ok-push.ensures.items) (all_snoc (IsReady c.args.posts.now) c.loop-drive.teams.items c.in_ok-team.team c.loop-drive.invariant.3 c.in_ok-team.ensures.ready),
)
