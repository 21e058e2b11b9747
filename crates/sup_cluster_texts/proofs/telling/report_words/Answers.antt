use Rattle.std.proofs.Common.{[], ◌∷◌, ◌++◌}
use Rattle.sup_jobs.proofs.Fronts.{cut_in_first, told_behind, told_short}
use Rattle.sup_cluster_texts.proofs.telling.report_words.Goals as goal

pub returns-in_err-put_all : goal.returns-in_err-put_all
returns-in_err-put_all g c =
    told_short _ _ _ _ _ c.from_residual.ensures.1 (cut_in_first _ _ c.args.front.now (c.args.word.now ++ (32 ∷ (c.args.last.now ++ 10 ∷ []))) c.in_err-put_all.ensures)

pub returns : goal.returns
returns g c = told_behind _ _ _ _ c.args.front.now _ c.in_ok-put_all.ensures c.report_pair.ensures
