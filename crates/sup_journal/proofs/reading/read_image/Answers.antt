use Rattle.std.proofs.Common.{◌≡◌, ℕ, ◌∙◌, sym, ap, subst, rules}
use Rattle.std.specs.Prelude.{Result, Ok, IfOk, IfErr}
use Rattle.sup_specs.specs.Values.{Bytes}
use Rattle.sup_journal.specs.Files.{IsFaultOf}
use Rattle.sup_journal.proofs.FileLaws.{reading_one, reading_cut}
use Rattle.sup_journal.proofs.reading.read_image.Goals as goal

pub returns-in_ok-to_vec-in-None-clause-image : goal.returns-in_ok-to_vec-in-None-clause-image
returns-in_ok-to_vec-in-None-clause-image c =
    let same : c.in_ok-to_vec-in-None.field-0.items ≡ c.args.file.now = search rules in
    reading_one c.args.file.now c.in-None.ensures ∙ ap Ok (sym same)

pub returns-in-Some-clause-image : goal.returns-in-Some-clause-image
returns-in-Some-clause-image c = subst (λ (reading : Result Bytes ℕ). IfOk c.replayed.result (λ image. reading ≡ Ok image.items))
    (sym (reading_cut c.args.file.now c.in-Some.first.now c.in-Some.others.now c.in-Some.ensures)) c.replayed.ensures.image

pub returns-in-Some-clause-fault : goal.returns-in-Some-clause-fault
returns-in-Some-clause-fault c = subst (λ (reading : Result Bytes ℕ). IfErr c.replayed.result (IsFaultOf reading))
    (sym (reading_cut c.args.file.now c.in-Some.first.now c.in-Some.others.now c.in-Some.ensures)) c.replayed.ensures.fault
