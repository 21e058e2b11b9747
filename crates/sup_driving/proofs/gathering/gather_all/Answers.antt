use Rattle.std.proofs.Common.{rules, ◌++◌, [], ◌∷◌, ap, sym, ◌∙◌, append_assoc, subst}
use Rattle.std.specs.List.{AllZip}
use Rattle.std.proofs.lemmas.List.Elements.{All-rest}
use Rattle.std.proofs.lemmas.Slice.Zip.{all_zipped_more}
use Rattle.sup_driving.specs.GatheredResults.{CanGather, GathersTeam}
use Rattle.sup_driving.proofs.LinkEndLaws.{gathers_as}
use Rattle.sup_driving.proofs.gathering.gather_all.Goals as goal

pub loop-team-preserved : goal.loop-team-preserved
loop-team-preserved g c = (
  append_assoc c.loop-team.yielded (c.in-Some.team ∷ []) c.next.new.self.rest.items ∙ (ap (λ l. c.loop-team.yielded ++ l) (sym c.in-Some.ensures.steps.0) ∙ c.loop-team.invariant.0),
  All-rest (CanGather {W = g.row.W.Denot} {h = g.W.Weigh}) c.in-Some.team _ _ (search rules) c.loop-team.invariant.1,
  subst (AllZip (GathersTeam {W = g.row.W.Denot} {h = g.W.Weigh}) (c.loop-team.yielded ++ c.in-Some.team ∷ [])) (sym c.in_ok-push.ensures.items)
      (all_zipped_more GathersTeam c.loop-team.yielded c.loop-team.results.items c.in-Some.team c.gather-result.result c.loop-team.invariant.2 (gathers_as c.in-Some.team c.gather-result.result c.gather-result.ensures.gathered c.gather-result.ensures.fault)),
)
