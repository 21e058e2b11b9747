use Rattle.std.proofs.Common.{[], ◌∷◌, ◌++◌}
use Rattle.sup_jobs.proofs.Fronts.{cut_in_first, cut_in_second, told_behind, told_short}
use Rattle.sup_jobs.proofs.fault.report_as.Goals as goal

pub returns-in_err-put_all : goal.returns-in_err-put_all
returns-in_err-put_all g c =
    told_short _ _ _ _ _ c.from_residual.ensures.1 (cut_in_first _ _ c.args.front.now (c.args.rest.now ++ 10 ∷ []) c.in_err-put_all.ensures)

pub returns-in_err-put_all-2 : goal.returns-in_err-put_all-2
returns-in_err-put_all-2 g c =
    let rest = cut_in_first _ _ c.args.rest.now (10 ∷ []) c.in_err-put_all-2.ensures in
    told_short _ _ _ _ _ c.from_residual-in_err-put_all-2.ensures.1 (cut_in_second _ _ _ c.args.front.now _ c.in_ok-put_all.ensures rest)

pub returns : goal.returns
returns g c = told_behind _ _ _ _ c.args.front.now _ c.in_ok-put_all.ensures (told_behind _ _ _ _ c.args.rest.now _ c.in_ok-put_all-2.ensures c.put_all-3.ensures)
