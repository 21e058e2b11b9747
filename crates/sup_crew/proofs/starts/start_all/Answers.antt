use Rattle.std.proofs.Common.{rules, append_assoc, ◌++◌, [], ◌∷◌, ap, ◌∙◌, sym, subst}
use Rattle.std.specs.List.{AllZip}
use Rattle.std.proofs.lemmas.List.Elements.{All-rest}
use Rattle.std.proofs.lemmas.Slice.Zip.{all_zipped_more}
use Rattle.sup_crew.specs.Promises.{IsFor}
use Rattle.sup_crew.proofs.starts.start_all.Goals as goal

pub loop-job-preserved : goal.loop-job-preserved
loop-job-preserved g c = (
  append_assoc c.loop-job.yielded (c.in-Some.job ∷ []) c.next.new.self.rest.items ∙ (ap (λ l. c.loop-job.yielded ++ l) (sym (search rules)) ∙ c.loop-job.invariant.0),
  All-rest (g.W.Work.takes c.args.work.now) c.in-Some.job _ _ (search rules) c.loop-job.invariant.1,
  subst (AllZip (IsFor c.args.work.now) (c.loop-job.yielded ++ c.in-Some.job ∷ [])) (sym (search rules))
      (all_zipped_more (IsFor c.args.work.now) c.loop-job.yielded c.loop-job.handles.items c.in-Some.job c.in_ok-started.started c.loop-job.invariant.2 c.in_ok-started.ensures),
)
