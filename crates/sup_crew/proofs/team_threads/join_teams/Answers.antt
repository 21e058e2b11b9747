use Rattle.std.proofs.Common.{rules, append_assoc, ◌++◌, [], ◌∷◌, ap, ◌∙◌, sym, subst}
use Rattle.std.specs.List.{AllZip}
use Rattle.std.proofs.lemmas.Slice.Zip.{all_zipped_more}
use Rattle.sup_crew.specs.Promises.{IsGivenAt}
use Rattle.sup_crew.specs.Teams.{TeamZip}
use Rattle.sup_crew.proofs.team_threads.join_teams.Goals as goal

pub loop-threads-preserved : goal.loop-threads-preserved
loop-threads-preserved g c = (
  append_assoc c.loop-threads.yielded (c.in-Some.threads ∷ []) c.next.new.self.rest.items ∙ (ap (λ l. c.loop-threads.yielded ++ l) (sym (search rules)) ∙ c.loop-threads.invariant.0),
  subst (AllZip (TeamZip (IsGivenAt g.W.Work-1.gives) (IsGivenAt g.W.Work-2.gives)) (c.loop-threads.yielded ++ c.in-Some.threads ∷ [])) (sym (search rules))
      (all_zipped_more (TeamZip (IsGivenAt g.W.Work-1.gives) (IsGivenAt g.W.Work-2.gives)) c.loop-threads.yielded c.loop-threads.all.items c.in-Some.threads c.in_ok-done.done c.loop-threads.invariant.1 c.in_ok-done.ensures),
)
