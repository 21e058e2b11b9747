use Rattle.std.proofs.Common.{rules, append_assoc, ◌++◌, [], ◌∷◌, ap, ◌∙◌, sym, subst}
use Rattle.std.specs.List.{AllZip}
use Rattle.std.proofs.lemmas.List.Elements.{All-rest}
use Rattle.std.proofs.lemmas.Slice.Zip.{all_zipped_more}
use Rattle.sup_crew.specs.Promises.{IsFor}
use Rattle.sup_crew.specs.Teams.{AllOfTeam, TeamZip}
use Rattle.sup_crew.proofs.team_threads.start_teams.Goals as goal

pub loop-team-preserved : goal.loop-team-preserved
loop-team-preserved g c = (
  append_assoc c.loop-team.yielded (c.in-Some.team ∷ []) c.next.new.self.rest.items ∙ (ap (λ l. c.loop-team.yielded ++ l) (sym (search rules)) ∙ c.loop-team.invariant.0),
  All-rest (AllOfTeam (g.W.Work-1.takes c.args.work.now) (g.W.Work-2.takes c.args.work.now)) c.in-Some.team _ _ (search rules) c.loop-team.invariant.1,
  subst (AllZip (TeamZip (IsFor c.args.work.now) (IsFor c.args.work.now)) (c.loop-team.yielded ++ c.in-Some.team ∷ [])) (sym (search rules))
      (all_zipped_more (TeamZip (IsFor c.args.work.now) (IsFor c.args.work.now)) c.loop-team.yielded c.loop-team.started.items c.in-Some.team (record { lead = c.in_ok-lead.lead; others = c.in_ok-others.others }) c.loop-team.invariant.2 (c.in_ok-lead.ensures, c.in_ok-others.ensures)),
)
