use Rattle.std.proofs.Common.{◌∙◌, sym, true≢false}
use Rattle.std.specs.Prelude.{map}
use Rattle.sup_command_line.specs.Requests.{request_of}
use Rattle.sup_program.proofs.EndingLaws.{ran_so, refused, unperformed, unstarted_run}
use Rattle.sup_program.proofs.run.run_plain.Goals as goal

pub returns-in-Ok-clause-done : goal.returns-in-Ok-clause-done
returns-in-Ok-clause-done g c = ran_so _ _ _ _ _ _ _ _ _ _ c.perform.result c.in-Ok.request c.in-Ok.ensures c.perform.ensures.done c.perform.ensures.taken

pub returns-in-Err-clause-done : goal.returns-in-Err-clause-done
returns-in-Err-clause-done g c = unstarted_run _ _ _ _ _ _ _ _ c.want_of_memory.result (unperformed (request_of (map g.S.AsStr.text c.args.words.now)) _ _ _ _ _ c.want_of_memory.ensures)

pub returns-in-Err-2-clause-done : goal.returns-in-Err-2-clause-done
returns-in-Err-2-clause-done g c =
    let none = c.in-Err.ensures (λ same. true≢false (sym (c.is_want_of_memory.ensures.1 same) ∙ c.if-is_want_of_memory.false)) in
    unstarted_run _ _ _ _ _ _ _ _ c.refuse.result (refused (request_of (map g.S.AsStr.text c.args.words.now)) _ _ _ _ _ _ _ none c.refuse.ensures)
